-- What has blocks and is only looked at comes to a temporary: a text as it is, and else a blank of its type.
use Rattle.std.proofs.Common.{◌≡◌, ◌⊎◌, inl, inr, ℕ, ◌+◌, ◌*◌, ◌≤◌, List, [], Option, Some, Bool, true, false, refl, sym, ap, subst, ◌∙◌, arith}
use Rattle.std.specs.Prelude.{not}
use Rattle.nim_plan.specs.declared.plan.Act.{Act}
use Rattle.nim_types.specs.Forms.{Form, form_of}
use Rattle.nim_types.specs.Types.{Ty}
use Rattle.nim_types.specs.Table.{facts_in, type_at}
use Rattle.nim_program.specs.declared.operation.Use.TheVariants.{Looked}
use Rattle.nim_meaning.specs.Deeds.{Answers, costs, give, unless_gone}
use Rattle.nim_meaning.specs.Here.{form_for}
use Rattle.nim_meaning.specs.Places.{Destination, copied_for, looked as looked_at, looked_as, taken_by}
use Rattle.nim_meaning.specs.State.{is_full_at, load}
use Rattle.nim_meaning.specs.Values.{Value, Location, bytes, default_of}
use Rattle.flat_code.specs.Fits.{is_location}
use Rattle.flat_code.specs.Lines.{gives}
use Rattle.flat_code.specs.Running.{scene_of}
use Rattle.flat_code.specs.Scene.{Passes, Where, location_at, with_value}
use Rattle.flat_code.specs.Shapes.{Shape, block, shape_of}
use Rattle.flat_code.specs.declared.block.BlockLine.{BlockLine}
use Rattle.flat_code.specs.declared.line.UseAt.{UseAt}
use Rattle.word_code.specs.declared.word.WordInstr.{WordInstr}
use Rattle.word_lowering.specs.LineCode.{got_code, location}
use Rattle.word_lowering.specs.Spots.{moves, clears}
use Rattle.word_lowering.specs.Stored.{is_hooked}
use Rattle.word_lowering.specs.declared.homes.Housed.{Housed}
use Rattle.word_lowering.proofs.AddressFacts.{at_homed}
use Rattle.word_lowering.proofs.BlankShapes.{blank_bytes, of_handles, seen_in, seen_other}
use Rattle.word_lowering.proofs.FixedWords.{bytes_least}
use Rattle.word_lowering.proofs.FullValues.{stored_bytes}
use Rattle.word_lowering.proofs.Gets.{item_settles}
use Rattle.word_lowering.proofs.HookedMoves.{Arrived, BitsTo, bits_to_value, blank_arrived}
use Rattle.word_lowering.proofs.HookedReads.{LiesAs, location_lies, some_bytes}
use Rattle.word_lowering.proofs.HouseHooks.{homed}
use Rattle.word_lowering.proofs.LinkedReads.{linked_fixed}
use Rattle.word_lowering.proofs.Lines.{Basis, IsGood, Settles, all_sites, bound_for, known, starts, where_there}
use Rattle.word_lowering.proofs.Located.{IsLinked, IsStoredAt, stored_or_linked}
use Rattle.word_lowering.proofs.Related.{Both, body_of, high}
use Rattle.word_lowering.proofs.Scenes.{Leads, house, is_fixed, of_value}
use Rattle.word_lowering.proofs.Settling.{code_here, code_next}
use Rattle.word_lowering.proofs.ShapeFacts.{shape_bytes}
use Rattle.word_lowering.proofs.ShapePaths.{shape_some}
use Rattle.word_lowering.proofs.Sites.{around, is_one_word}
use Rattle.word_lowering.proofs.Targets.{pointed}
use Rattle.word_lowering.proofs.ValueFacts.{type_in}

taken_looked : (f : Form) (to : Destination) (act : Option Act) (l : Location) → to.how ≡ Looked → taken_by true f to act l ≡ looked_at f l
taken_looked f to act l e = ap (λ how. copied_for how f to l) e

module _ (x : Basis) (g : Both) (line : BlockLine) (rest : List BlockLine) (y : IsGood x (starts g line rest)) where
  -- a value of what has blocks, whatever the plan says of it: a text, or a blank one
  module _ (to n from : ℕ) (how : UseAt) (act : Option Act) (there : Where) (is : how.how ≡ Looked) (hooks : is_hooked x.table n ≡ true)
      (t : BitsTo x g line rest y (of_value to) (shape_of (facts_in x.table) (type_at (known x).types n)))
      (many : is_one_word (shape_of (facts_in x.table) (type_at (known x).types n)) ≡ false)
      (handles : of_handles (shape_of (facts_in x.table) (type_at (known x).types n)) ≡ true)
      (typed : type_in x is_location (body_of g) from ≡ Some (type_at (known x).types n)) (e : g.call.temps.places from ≡ Some there) where
    abbrev own : Ty
    own = type_at (known x).types n

    abbrev s : Shape
    s = shape_of (facts_in x.table) own

    abbrev v : Value
    v = load g.world (location_at g.call.temps there)

    abbrev h : Housed
    h = location (around x.table x.blocks (body_of g)) from

    abbrev Sees : Value → Type 0
    Sees u = Settles x (starts g line rest) rest (Passes (Answers [] (bytes v + 0) (with_value to g.call.temps u) g.world))

    text_seen : s ≡ block → code_here x g line rest y ≡ moves (house g.call.site (of_value to)) h (code_next x g line rest y)
        → is_full_at g.world (location_at g.call.temps there) ≡ true → Sees (looked_as (form_of (facts_in x.table) own) v)
    text_seen text code full =
        let p = pointed x g line rest y from own typed in
        let homed_from = homed x g.call.site y.linked.0 from p.named in
        let r = subst (λ u. LiesAs x g line rest y h u v) p.look
        (location_lies x g line rest y from there p.named homed_from e (ap is_one_word p.look ∙ many) (inr (p.look ∙ text)) full) in
        let some = some_bytes x g line rest y r in
        subst Sees (sym (x.seen n v ∙ ap (λ u. seen_in u v) text)) (bits_to_value x g line rest y to s v t h r code (bytes v + 0) (omega (arith, some)))

    -- there is work for each word
    enough : is_full_at g.world (location_at g.call.temps there) ≡ true → 9 + shape_bytes s ≤ 256 * (bytes v + 0)
    enough full =
        let p = pointed x g line rest y from own typed in
        let homed_from = homed x g.call.site y.linked.0 from p.named in
        let a = at_homed x g line rest y from there p.named homed_from e (ap is_one_word p.look ∙ many) in
        by (stored_or_linked x (starts g line rest) y g.call (inl refl) (inl refl) there a.address s full
        (subst (Leads x.table x.blocks (all_sites x g line rest y) g.ground g.world g.call.site g.call.temps there a.address) p.look a.leads_to))
      where
        by : {a : ℕ} → IsStoredAt x (starts g line rest) y v a s ⊎ IsLinked x (starts g line rest) y there a s → 9 + shape_bytes s ≤ 256 * (bytes v + 0)
        by {a} (inl r) =
            let same = stored_bytes (is_fixed g.ground) g.ground.blocks g.memory a s v r.stored r.shaped in
            let some = shape_some s in
            omega (arith, same, some)
        by {a} (inr r) =
            let f = linked_fixed x (starts g line rest) y r.location a s r.from in
            let least = bytes_least (is_fixed g.ground) f.words s (load g.world r.location) f.are in
            let same : bytes v ≡ bytes (load g.world r.location) = ap (λ w. bytes (load g.world (location_at g.call.temps w))) r.is in
            omega (arith, least, same)

    blank_seen : (s ≡ block → ⊥) → code_here x g line rest y ≡ clears (house g.call.site (of_value to)) (code_next x g line rest y)
        → is_full_at g.world (location_at g.call.temps there) ≡ true → Sees (looked_as (form_of (facts_in x.table) own) v)
    blank_seen other code full =
        let next = code_next x g line rest y in
        let u : Value = default_of (facts_in x.table) own in
        let a : Arrived x g line rest y (code_here x g line rest y) next (of_value to) u (9 + bytes u)
        = subst (λ k. Arrived x g line rest y k next (of_value to) u (9 + bytes u)) (sym code) (blank_arrived x g line rest y (of_value to) n t handles
        many next) in
        let work = enough full in
        let same : bytes u ≡ shape_bytes s = ap bytes (x.blanks n) ∙ blank_bytes s handles in
        subst Sees (sym (x.seen n v ∙ seen_other s v other ∙ sym (x.blanks n)))
        (item_settles x g line rest y to u (9 + bytes u) (bytes v + 0) t.there a.changes (a.item (with_value to g.call.temps u)) (omega (arith, work, same)))

    pub looked_bits : (text : Bool) → (text ≡ true → s ≡ block) → (text ≡ false → s ≡ block → ⊥)
        → code_here x g line rest y ≡ got_code (around x.table x.blocks (body_of g)) false (not text) (Some n) (house g.call.site (of_value to)) h
        (code_next x g line rest y)
        → Settles x (starts g line rest) rest (gives (scene_of (high x.table x.blocks (starts g line rest))) to
        (taken_by true (form_for (facts_in x.table) (Some own)) (bound_for g how) act (location_at g.call.temps there)))
    looked_bits text is_text no_text code =
        subst (λ d. Settles x (starts g line rest) rest (gives (scene_of (high x.table x.blocks (starts g line rest))) to d))
        (sym (taken_looked (form_for (facts_in x.table) (Some own)) (bound_for g how) act (location_at g.call.temps there) is))
        (where_there x (starts g line rest) rest (is_full_at g.world (location_at g.call.temps there))
        (λ b. gives (scene_of (high x.table x.blocks (starts g line rest))) to (unless_gone b (costs (bytes v)
        (give (looked_as (form_of (facts_in x.table) own) v))))) (λ before. tt) (by text is_text no_text code))
      where
        by : (text : Bool) → (text ≡ true → s ≡ block) → (text ≡ false → s ≡ block → ⊥)
            → code_here x g line rest y ≡ got_code (around x.table x.blocks (body_of g)) false (not text) (Some n) (house g.call.site (of_value to)) h
            (code_next x g line rest y)
            → is_full_at g.world (location_at g.call.temps there) ≡ true → Sees (looked_as (form_of (facts_in x.table) own) v)
        by true is_text no_text code full = text_seen (is_text refl) code full
        by false is_text no_text code full = blank_seen (no_text refl) code full
