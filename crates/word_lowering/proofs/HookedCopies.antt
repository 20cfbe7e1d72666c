-- Lines that get what stands at a location where it has hooks: it is copied, unless it is only looked at, and then handed on, or waits where it is used.
use Rattle.std.proofs.Common.{◌≡◌, ◌⊎◌, inl, inr, ℕ, List, Bool, true, false, Option, Some, None, refl, sym, ap, ap₂, subst, ◌∙◌}
use Rattle.std.specs.Prelude.{◌&&◌, not}
use Rattle.std.proofs.lemmas.Bool.{and_parts, cases_Bool}
use Rattle.nim_plan.specs.declared.plan.Act.{Act}
use Rattle.nim_types.specs.Forms.{Form}
use Rattle.nim_types.specs.Table.{facts_in, type_at, types_in}
use Rattle.nim_types.specs.Types.{Ty}
use Rattle.nim_program.specs.Kinds.{is_of}
use Rattle.nim_program.specs.View.{if_type}
use Rattle.nim_program.specs.declared.operation.Use.{Use}
use Rattle.nim_program.specs.declared.operation.Use.TheVariants.{Looked}
use Rattle.nim_meaning.specs.Deeds.{◌>>=◌}
use Rattle.nim_meaning.specs.Here.{gives_hooked}
use Rattle.nim_meaning.specs.Lifted.{copied}
use Rattle.nim_meaning.specs.Places.{Destination, copied_for, kept, taken_by}
use Rattle.nim_meaning.specs.Shapes.{waits}
use Rattle.nim_meaning.specs.Values.{Location}
use Rattle.nim_meaning.specs.Waiting.{reads_kept}
use Rattle.flat_code.specs.declared.block.BlockLine.{BlockLine}
use Rattle.flat_code.specs.declared.block.BlockLine.TheVariants as block_line
use Rattle.flat_code.specs.declared.line.Line.TheVariants as L
use Rattle.flat_code.specs.declared.line.UseAt.{UseAt}
use Rattle.flat_code.specs.declared.owned.OwnedLine.TheVariants as owned_line
use Rattle.flat_code.specs.Codes.{block_does, block_plain}
use Rattle.flat_code.specs.Fits.{is_location, is_value}
use Rattle.flat_code.specs.Lines.{form_in, gives, using_place}
use Rattle.flat_code.specs.Running.{scene_of}
use Rattle.flat_code.specs.Shapes.{Shape, shape_of}
use Rattle.nim_types.specs.declared.types.TypeDef.{TypeDef}
use Rattle.nim_types.specs.declared.types.TypeDef.TheVariants as D
use Rattle.flat_code.specs.Scene.{known_in, location_at}
use Rattle.flat_code.specs.Waits.{used_at, waits_right}
use Rattle.word_code.specs.declared.word.WordInstr.{WordInstr}
use Rattle.word_lowering.specs.declared.homes.Alias.TheVariants as alias
use Rattle.word_lowering.specs.declared.homes.Waiter.{Waiter}
use Rattle.word_lowering.specs.Aliases.{alias_by, value_to}
use Rattle.word_lowering.specs.LineCode.{behind_line, got_code, is_copied, location, value}
use Rattle.word_lowering.specs.OwnedCode.{is_text}
use Rattle.word_lowering.specs.Stored.{entry_at, is_hooked}
use Rattle.word_lowering.specs.WaitingCode.{kept_if}
use Rattle.word_lowering.proofs.AllOperands.{using_completes}
use Rattle.word_lowering.proofs.ControlLines.{plain}
use Rattle.word_lowering.proofs.HookBasis.{HookBasis}
use Rattle.word_lowering.proofs.HookedHere.{hooked_named}
use Rattle.word_lowering.proofs.HookedLines.{get_copied}
use Rattle.word_lowering.proofs.BitRows.{many_value}
use Rattle.word_lowering.proofs.HookFree.{got_looked}
use Rattle.word_lowering.proofs.HookedMoves.{bits_target}
use Rattle.word_lowering.proofs.JoinedTypes.{text_entry}
use Rattle.word_lowering.proofs.LookedBits.{looked_bits}
use Rattle.word_lowering.proofs.TypeShapes.{Looks, type_looks}
use Rattle.word_lowering.proofs.HookedTypes.{HookedType}
use Rattle.word_lowering.proofs.KeptCode.{value_waits}
use Rattle.word_lowering.proofs.KeptLines.{WaitsAt}
use Rattle.word_lowering.proofs.LineFits.{are_of}
use Rattle.word_lowering.proofs.Lines.{Basis, Completes, IsGood, Settles, bound_for, completes_quiet, fits_here, known, starts, using_settles, Whole}
use Rattle.word_lowering.proofs.MadeValues.{made_completes}
use Rattle.word_lowering.proofs.Related.{Both, body_of, high}
use Rattle.word_lowering.proofs.Scenes.{house, looked, of_location, of_value}
use Rattle.word_lowering.proofs.Settling.{code_here, code_next}
use Rattle.word_lowering.proofs.ShapeFacts.{never}
use Rattle.word_lowering.proofs.Sites.{Body, around, is_one_word}
use Rattle.word_lowering.proofs.Targets.{texts_behind}
use Rattle.word_lowering.proofs.UsedValues.{used_there}
use Rattle.word_lowering.proofs.ValueFacts.{type_in}

-- ---- by uses

taken_copied : (f : Form) (to : Destination) (act : Option Act) (l : Location) → is_copied to.how ≡ true → taken_by true f to act l ≡ (copied f l >>= kept to)
taken_copied f to act l h = by to.how h
  where
    by : (u : Use) → is_copied u ≡ true → copied_for u f to l ≡ (copied f l >>= kept to)
    by Looked h = never h
    by u h = refl

reads_waits : (u : Use) → is_copied u ≡ true → reads_kept u ≡ waits u
reads_waits Looked h = never h
reads_waits u h = refl

looked_is : (u : Use) → is_copied u ≡ false → u ≡ Looked
looked_is Looked h = refl
looked_is u h = never (sym h)

text_is : (o : Option TypeDef) → is_text o ≡ true → o ≡ Some D.Text
text_is (Some D.Text) h = refl
text_is o h = never h

module _ (x : Basis) where
  abbrev type_of_number : ℕ → Ty
  type_of_number n = type_at (types_in x.table) n

  -- what such a line's names have
  record Typed (g : Both) (to from n : ℕ) : Type 0 where
    to_typed : type_in x is_value (body_of g) to ≡ Some (type_of_number n)
    from_typed : type_in x is_location (body_of g) from ≡ Some (type_of_number n)

  typed_by : (g : Both) (to from n : ℕ)
      → (is_of (type_in x is_value (body_of g) to) (Some (type_of_number n))
      && is_of (type_in x is_value (body_of g) to) (type_in x is_location (body_of g) from)) ≡ true → Typed g to from n
  typed_by g to from n fits =
      let p = and_parts (is_of (type_in x is_value (body_of g) to) (Some (type_of_number n)))
      (is_of (type_in x is_value (body_of g) to) (type_in x is_location (body_of g) from)) fits in
      let v = are_of (type_in x is_value (body_of g) to) (Some (type_of_number n)) p.0 in
      let w = are_of (type_in x is_value (body_of g) to) (type_in x is_location (body_of g) from) p.1 in
      let to_typed : type_in x is_value (body_of g) to ≡ Some (type_of_number n) = v.is ∙ sym v.is_other in
      record { to_typed = to_typed; from_typed = w.is_other ∙ (sym w.is ∙ to_typed) }

  module _ (b : HookBasis x) (g : Both) (line : BlockLine) (rest : List BlockLine) (y : IsGood x (starts g line rest))
      (to from : ℕ) (how : UseAt) (act : Option Act) (n : ℕ) (hooks : is_hooked x.table n ≡ true) (copied_is : is_copied how.how ≡ true)
      (t : Typed g to from n) (gives_it : value_to (block_plain line) ≡ Some to) (own : alias_by (block_plain line) (texts_behind x g line rest y) ≡ alias.Own)
      (code : code_here x g line rest y ≡ got_code (around x.table x.blocks (body_of g)) (is_hooked x.table n && is_copied how.how)
      (is_hooked x.table n && not (is_text (entry_at x.table n))) (Some n)
      (house g.call.site (of_value to)) (location (around x.table x.blocks (body_of g)) from) (code_next x g line rest y))
      (waiting : value_waits x.table (block_plain line) ≡ (is_hooked x.table n && reads_kept how.how))
      (code_is : (c : Body) (k : List WordInstr) → behind_line (around x.table x.blocks c) (block_plain line) k
      ≡ kept_if x.table c.own.waiters (value (around x.table x.blocks c)) (is_hooked x.table n && reads_kept how.how) how.node to k)
      (right : waits_right (known x) (body_of g).proc.places (block_plain line)
      ≡ used_at (known x) (body_of g).proc.places (reads_kept how.how) to how (Some n)) where
    abbrev of : Ty
    of = type_of_number n

    hooked_here : HookedType x n
    hooked_here = hooked_named x g.call.site y.linked.0 (of_value to) n t.to_typed hooks

    waits_there : true ≡ true → waits how.how ≡ true → (w : Waiter) × WaitsAt x g.call.site to how.node w
    waits_there h w =
        used_there x g line rest y (reads_kept how.how) to how n right gives_it own t.to_typed (sym (x.hooks n) ∙ hooks) (reads_waits how.how copied_is ∙ w)

    abbrev form : Form
    form = form_in (known_in x.table) n

    abbrev takes_by : Bool → Location → Type 0
    takes_by h l =
        Completes x (starts g line rest) rest
        (gives (scene_of (high x.table x.blocks (starts g line rest))) to (taken_by h form (bound_for g how) act l))

    copy_completes : Completes x (starts g line rest) rest (using_place g.call.temps from (λ place l.
        gives (scene_of (high x.table x.blocks (starts g line rest))) to (taken_by (gives_hooked (facts_in x.table) (Some of)) form (bound_for g how) act l)))
    copy_completes =
        using_completes x (starts g line rest) rest g.call.temps (g.call.temps.places from) (λ there.
        gives (scene_of (high x.table x.blocks (starts g line rest))) to
        (taken_by (gives_hooked (facts_in x.table) (Some of)) form (bound_for g how) act (location_at g.call.temps there)))
        (λ there e. let l : Location = location_at g.call.temps there in
        subst (λ h. takes_by h l) (sym hooks ∙ x.hooks n)
        (subst (λ d. Completes x (starts g line rest) rest (gives (scene_of (high x.table x.blocks (starts g line rest))) to d))
        (sym (taken_copied form (bound_for g how) act l copied_is))
        (made_completes x g line rest y g.call.temps to how true
        (waiting ∙ ap₂ (λ p q. p && q) hooks (reads_waits how.how copied_is))
        (λ c k. code_is c k ∙ ap₂ (λ p q. kept_if x.table c.own.waiters (value (around x.table x.blocks c)) (p && q) how.node to k) hooks
        (reads_waits how.how copied_is))
        waits_there (copied form l)
        (get_copied x b g line rest y n hooked_here to gives_it own t.to_typed from t.from_typed
        (code ∙ ap₂ (λ p q. got_code (around x.table x.blocks (body_of g)) (p && q) (is_hooked x.table n && not (is_text (entry_at x.table n))) (Some n)
        (house g.call.site (of_value to)) (location (around x.table x.blocks (body_of g)) from) (code_next x g line rest y)) hooks copied_is) there e))))

  module _ (b : HookBasis x) (g : Both) (rest : List BlockLine) (to from : ℕ) (how : UseAt) where
    -- by what its entry says
    looked_here : (line : BlockLine) (y : IsGood x (starts g line rest)) (n : ℕ) → is_hooked x.table n ≡ true → is_copied how.how ≡ false → Typed g to from n
        → (act : Option Act) → value_to (block_plain line) ≡ Some to → alias_by (block_plain line) (texts_behind x g line rest y) ≡ alias.Own
        → code_here x g line rest y ≡ got_code (around x.table x.blocks (body_of g)) (is_hooked x.table n && is_copied how.how)
        (is_hooked x.table n && not (is_text (entry_at x.table n))) (Some n) (house g.call.site (of_value to))
        (location (around x.table x.blocks (body_of g)) from) (code_next x g line rest y)
        → Settles x (starts g line rest) rest (using_place g.call.temps from (λ place l. gives (scene_of (high x.table x.blocks (starts g line rest))) to
        (taken_by (gives_hooked (facts_in x.table) (Some (type_of_number n))) (form_in (known_in x.table) n) (bound_for g how) act l)))
    looked_here line y n hooks c t act gives_it own code =
        let s : Shape = shape_of (facts_in x.table) (type_of_number n) in
        let is = many_value x g line rest y to (type_of_number n) t.to_typed (sym (x.hooks n) ∙ hooks) in
        let looks : Looks x.table (entry_at x.table n) s = type_looks x.table b.is_table b.have n in
        using_settles x (starts g line rest) rest (g.call.temps.places from)
        (λ there. gives (scene_of (high x.table x.blocks (starts g line rest))) to
        (taken_by (gives_hooked (facts_in x.table) (Some (type_of_number n))) (form_in (known_in x.table) n) (bound_for g how) act
        (location_at g.call.temps there)))
        (λ there e. subst (λ h. Settles x (starts g line rest) rest (gives (scene_of (high x.table x.blocks (starts g line rest))) to
        (taken_by h (form_in (known_in x.table) n) (bound_for g how) act (location_at g.call.temps there)))) (sym hooks ∙ x.hooks n)
        (looked_bits x g line rest y to n from how act there (looked_is how.how c) hooks
        (bits_target x g line rest y to (type_of_number n) gives_it own t.to_typed is.many) is.many is.handles t.from_typed e (is_text (entry_at x.table n))
        (λ h. subst (λ o. Looks x.table o s) (text_is (entry_at x.table n) h) looks)
        (λ h same. never (sym h ∙ ap is_text (text_entry x.table (entry_at x.table n) s looks same)))
        (code ∙ got_looked (around x.table x.blocks (body_of g)) (is_hooked x.table n) (is_copied how.how)
        (is_hooked x.table n && not (is_text (entry_at x.table n))) (Some n) (house g.call.site (of_value to))
        (location (around x.table x.blocks (body_of g)) from) (code_next x g line rest y) c
        ∙ ap (λ h. got_code (around x.table x.blocks (body_of g)) false (h && not (is_text (entry_at x.table n))) (Some n) (house g.call.site (of_value to))
        (location (around x.table x.blocks (body_of g)) from) (code_next x g line rest y)) hooks)))

    none_waits : (n : ℕ) → is_hooked x.table n ≡ true → is_copied how.how ≡ false → (is_hooked x.table n && reads_kept how.how) ≡ false
    none_waits n hooks e = ap₂ (λ p u. p && reads_kept u) hooks (looked_is how.how e)

    pub get_whole : (ty : Option ℕ) → gives_hooked (facts_in x.table) (if_type (known x).types ty) ≡ true → Whole x g rest (plain (L.Get to from how ty))
    get_whole None h y = never h
    get_whole (Some n) h y = by (cases_Bool (is_copied how.how))
      where
        line : BlockLine
        line = plain (L.Get to from how (Some n))

        hooks : is_hooked x.table n ≡ true
        hooks = x.hooks n ∙ h

        t : Typed g to from n
        t = typed_by g to from n (fits_here x.table x.blocks (body_of g) line rest y.stands)

        by : (is_copied how.how ≡ true) ⊎ (is_copied how.how ≡ false)
            → Completes x (starts g line rest) rest (block_does (known x) (scene_of (high x.table x.blocks (starts g line rest))) line)
        by (inl c) = copy_completes b g line rest y to from how None n hooks c t refl refl refl refl (λ u k. refl) refl
        by (inr c) =
            completes_quiet x g line rest (block_does (known x) (scene_of (high x.table x.blocks (starts g line rest))) line) (none_waits n hooks c)
            (looked_here line y n hooks c t None refl refl refl)

    pub take_whole : (act : Option Act) (ty : Option ℕ) → gives_hooked (facts_in x.table) (if_type (known x).types ty) ≡ true
        → Whole x g rest (block_line.Plain (owned_line.Take to from how act ty))
    take_whole act None h y = never h
    take_whole act (Some n) h y = by (cases_Bool (is_copied how.how))
      where
        line : BlockLine
        line = block_line.Plain (owned_line.Take to from how act (Some n))

        hooks : is_hooked x.table n ≡ true
        hooks = x.hooks n ∙ h

        t : Typed g to from n
        t = typed_by g to from n (fits_here x.table x.blocks (body_of g) line rest y.stands)

        by : (is_copied how.how ≡ true) ⊎ (is_copied how.how ≡ false)
            → Completes x (starts g line rest) rest (block_does (known x) (scene_of (high x.table x.blocks (starts g line rest))) line)
        by (inl c) = copy_completes b g line rest y to from how act n hooks c t refl refl refl refl (λ u k. refl) refl
        by (inr c) =
            completes_quiet x g line rest (block_does (known x) (scene_of (high x.table x.blocks (starts g line rest))) line) (none_waits n hooks c)
            (looked_here line y n hooks c t act refl refl refl)
