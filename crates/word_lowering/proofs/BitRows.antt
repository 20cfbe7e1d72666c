-- Rows that move the bits of what has something to do at its end, as lines: a temporary gets what a type starts at, what stands at a location is taken, and
-- two locations trade what they have.
use Rattle.std.proofs.Common.{◌≡◌, ℕ, List, [], ◌∷◌, Option, Some, None, true, false, refl, sym, ap, ap₂, subst, ◌∙◌, ◌+◌}
use Rattle.word_lowering.proofs.Sites.{Among, around, globals_of, has_hooks, is_one_word, looks, sigs, type_of}
use Rattle.nim_meaning.specs.Deeds.{Answers, Deed, Stores, behind, costs, does, give, perform, sets, unless_gone, ◌>>=◌, ◌>>◌}
use Rattle.nim_meaning.specs.Values.{At, Location, Operand, Value, bytes, default_of, location_of, nothing}
use Rattle.word_lowering.proofs.AddressFacts.{AtAddress, at_homed}
use Rattle.word_lowering.proofs.Lines.{Basis, IsGood, Settles, all_sites, known, starts, where_there}
use Rattle.flat_code.specs.declared.block.BlockLine.{BlockLine}
use Rattle.word_lowering.proofs.Related.{Both, body_of, high}
use Rattle.nim_types.specs.Types.{Facts, Ty}
use Rattle.word_lowering.proofs.OwnedFits.{FitsRow, OwnedRow, fits_row}
use Rattle.flat_code.specs.declared.line.From.{From}
use Rattle.word_lowering.proofs.Scenes.{FromOwned, house, looked, of_location, of_value}
use Rattle.word_lowering.proofs.ValueFacts.{HasType, has_type, look_of, type_in}
use Rattle.word_lowering.specs.declared.homes.Home.{Home}
use Rattle.word_lowering.specs.declared.homes.Housed.{Housed}
use Rattle.word_lowering.specs.declared.spots.Spot.TheVariants.{Lies}
use Rattle.word_lowering.proofs.OwnedHandles.{OwnedAt, no_constant, owned_many}
use Rattle.flat_code.specs.Scene.{Located, Passes, Where, location_at, with_value}
use Rattle.word_lowering.proofs.SwapBits.{PointsAt, swap_settles}
use Rattle.flat_code.specs.Shapes.{Shape, shape_of}
use Rattle.flat_code.specs.declared.line.UseAt.{UseAt}
use Rattle.nim_meaning.specs.State.{World, is_full_at, is_seen, is_there, is_whole, load, store}
use Rattle.std.proofs.lemmas.Bool.{and_parts}
use Rattle.word_lowering.proofs.ApplyFits.{apply_line}
use Rattle.word_lowering.proofs.LineFits.{are_of, no_type, same_type}
use Rattle.nim_meaning.specs.Texts.{are_seen}
use Rattle.word_lowering.proofs.OperandTexts.{at_place, typed_parts}
use Rattle.word_lowering.proofs.HookedMoves.{bits_target}
use Rattle.nim_meaning.specs.Places.{changes, exchanged, may_change}
use Rattle.word_lowering.proofs.Settling.{code_next}
use Rattle.word_lowering.proofs.MoveBits.{default_settles, move_settles}
use Rattle.nim_types.specs.Table.{facts_in, type_at}
use Rattle.flat_code.specs.Lines.{fetch, gives}
use Rattle.nim_types.specs.Forms.{form_of, hooked}
use Rattle.word_lowering.proofs.HouseHooks.{homed, hooks_as}
use Rattle.word_lowering.proofs.LocationHouses.{homed_house}
use Rattle.nim_program.specs.View.{if_type}
use Rattle.flat_code.specs.Fits.{is_location, is_value}
use Rattle.word_lowering.specs.LineCode.{location, swap_code}
use Rattle.word_lowering.proofs.LetterShapes.{no_letter}
use Rattle.word_lowering.proofs.ShapeFacts.{is_letter, never, shape_bytes}
use Rattle.word_lowering.proofs.StoreLines.{none_temps}
use Rattle.word_lowering.proofs.BlankShapes.{of_handles}
use Rattle.flat_code.specs.Running.{scene_of}
use Rattle.word_lowering.specs.Spots.{spot_of}
use Rattle.nim_meaning.specs.Table.{swapped}
use Rattle.word_lowering.proofs.ControlLines.{value_type}
use Rattle.nim_program.specs.declared.operation.Operation.TheVariants as O
use Rattle.flat_code.specs.declared.line.From.TheVariants as F
use Rattle.flat_code.specs.Fits as fit

module _ (x : Basis) (g : Both) (line : BlockLine) (rest : List BlockLine) (y : IsGood x (starts g line rest)) where
  -- what has something to do is no word, and has handles alone
  pub record IsMany (ty : Ty) : Type 0 where
    pub handles : of_handles (shape_of (facts_in x.table) ty) ≡ true
    pub many : is_one_word (shape_of (facts_in x.table) ty) ≡ false

  many_as : (h : Housed) (ty : Ty) → Among h (body_of g).own.all → type_of x.table h ≡ ty → has_hooks x.table h ≡ true → IsMany ty
  many_as h ty among typed hooks =
      let b = y.linked.0.built h among hooks in
      record {
        handles = subst (λ t. of_handles (shape_of (facts_in x.table) t) ≡ true) typed b.0;
        many = subst (λ t. is_one_word (shape_of (facts_in x.table) t) ≡ false) typed b.1;
      }

  pub many_value : (t : ℕ) (ty : Ty) → type_in x is_value (body_of g) t ≡ Some ty → hooked (form_of (facts_in x.table) ty) ≡ true → IsMany ty
  many_value t ty typed hooks =
      let n = has_type x g.call.site (of_value t) ty y.linked.0 typed in
      many_as (house g.call.site (of_value t)) ty n.named.among n.typed (hooks_as x g.call.site y.linked.0 (of_value t) ty typed ∙ hooks)

  pub many_location : (t : ℕ) (ty : Ty) → type_in x is_location (body_of g) t ≡ Some ty → hooked (form_of (facts_in x.table) ty) ≡ true → IsMany ty
  many_location t ty typed hooks =
      let n = has_type x g.call.site (of_location t) ty y.linked.0 typed in
      many_as (house g.call.site (of_location t)) ty n.named.among n.typed (hooks_as x g.call.site y.linked.0 (of_location t) ty typed ∙ hooks)

  -- a location of that type that may be written, and where its bits are
  pub record BitsAt (t : ℕ) (l : Location) (ty : Ty) : Type 0 where
    pub lies : spot_of (location (around x.table x.blocks (body_of g)) t) ≡ Lies (location (around x.table x.blocks (body_of g)) t).home
    pub no_word : (location (around x.table x.blocks (body_of g)) t).is_word ≡ false
    pub plain_letter : (location (around x.table x.blocks (body_of g)) t).is_letter ≡ false
    pub bytes_are : (location (around x.table x.blocks (body_of g)) t).bytes ≡ shape_bytes (shape_of (facts_in x.table) ty)
    -- where it may change
    pub points : may_change l.base ≡ true
        → PointsAt x g line rest y l (shape_of (facts_in x.table) ty) (location (around x.table x.blocks (body_of g)) t).home

  pub bits_at : (t : ℕ) (there : Where) (ty : Ty) → type_in x is_location (body_of g) t ≡ Some ty
      → fit.may_write (known x) (sigs x.table x.blocks) (globals_of x.table x.blocks) (body_of g).proc.places t ≡ true
      → is_one_word (shape_of (facts_in x.table) ty) ≡ false → g.call.temps.places t ≡ Some there
      → is_seen g.world (location_at g.call.temps there) ≡ true → BitsAt t (location_at g.call.temps there) ty
  bits_at t there ty typed may many at seen =
      let l : Location = location_at g.call.temps there in
      let s : Shape = shape_of (facts_in x.table) ty in
      let h : Housed = location (around x.table x.blocks (body_of g)) t in
      let has : HasType x g.call.site (of_location t) ty = has_type x g.call.site (of_location t) ty y.linked.0 typed in
      let look : looked x.table g.call.site (of_location t) ≡ s = look_of x g.call.site (of_location t) ty has in
      let p = and_parts (is_there g.world l) (is_whole g.world (load g.world l)) seen in
      let homed_here = homed x g.call.site y.linked.0 t has.named in
      let a : AtAddress x g line rest y h there (looked x.table g.call.site (of_location t))
      = at_homed x g line rest y t there has.named homed_here at (ap is_one_word look ∙ many) in
      let housed = homed_house x g line rest y t there has.named homed_here at in
      let looks_so : looks x.table h ≡ s = ap (shape_of (facts_in x.table)) (housed.typed ∙ has.typed) in
      record {
        lies = a.lies ∙ ap Lies (sym a.home_is);
        no_word = sym housed.housed.word ∙ (ap is_one_word looks_so ∙ many);
        plain_letter = sym housed.housed.letter ∙ (ap is_letter looks_so ∙ no_letter s many);
        bytes_are = sym housed.housed.bytes ∙ ap shape_bytes looks_so;
        points = λ changes.
            let o : OwnedAt x g line rest y t there s
            = owned_many x g line rest y t there has.named (y.linked.0.standing t may) at s (no_constant x g line rest y there s changes) many look p.0 p.1 in
            record {
              high = o.at_home.high;
              address = o.address;
              points = o.at_home.points;
              owned = subst (λ k. FromOwned x.table (all_sites x g line rest y) g.ground g.world k o.address s)
                  (sym (ap (location_at g.call.temps) o.is)) o.owned;
            };
      }

module _ (x : Basis) (g : Both) (rest : List BlockLine) (to : ℕ) (how : UseAt) where
  abbrev type_at_number : Option ℕ → Option Ty
  type_at_number o = if_type (known x).types o

  abbrev facts : Facts
  facts = facts_in x.table

  -- ---- what a type starts at

  pub default_row : (n : ℕ) → hooked (form_of (facts_in x.table) (type_at (known x).types n)) ≡ true → (of : List (Option ℕ)) (from : List From)
      → OwnedRow x g rest to how O.Default (Some n) of from
  default_row n hooks (a ∷ of) from y xs have seen = never (fits_row x g rest to O.Default how (Some n) (a ∷ of) from y).row
  default_row n hooks [] (f ∷ from) y xs have seen = never (fits_row x g rest to O.Default how (Some n) [] (f ∷ from) y).typed
  default_row n hooks [] [] y xs have seen =
      let line : BlockLine = apply_line x g rest to O.Default how (Some n) [] [] in
      let r : FitsRow x g rest to O.Default how (Some n) [] [] y = fits_row x g rest to O.Default how (Some n) [] [] y in
      let typed : type_in x is_value (body_of g) to ≡ Some (type_at (known x).types n)
      = same_type (type_in x is_value (body_of g) to) (type_at_number (Some n)) r.given in
      let m = many_value x g line rest y to (type_at (known x).types n) typed hooks in
      default_settles x g line rest y to n (bits_target x g line rest y to (type_at (known x).types n) refl refl typed m.many) m.handles m.many refl

  -- ---- what stands at a location is taken

  module _ (n : ℕ) (hooks : hooked (form_of (facts_in x.table) (type_at (known x).types n)) ≡ true) (a : Option ℕ) (t : ℕ) where
    abbrev moving : BlockLine
    moving = apply_line x g rest to O.Move how (Some n) (a ∷ []) (F.Place t ∷ [])

    abbrev gives_moved : Deed Value → Type 0
    gives_moved d = Settles x (starts g moving rest) rest (gives (scene_of (high x.table x.blocks (starts g moving rest))) to (costs 1 d >>= (λ v. give v)))

    move_one : (y : IsGood x (starts g moving rest)) (z : Operand) → fetch g.call.temps (F.Place t) ≡ Some z → is_seen g.world (location_of z) ≡ true
        → gives_moved (exchanged (location_of z) (default_of (facts_in x.table) (type_at (known x).types n)))
    move_one y z have seen =
        let ty : Ty = type_at (known x).types n in
        let r : FitsRow x g rest to O.Move how (Some n) (a ∷ []) (F.Place t ∷ []) y = fits_row x g rest to O.Move how (Some n) (a ∷ []) (F.Place t ∷ []) y in
        let typed : type_in x is_value (body_of g) to ≡ Some ty = same_type (type_in x is_value (body_of g) to) (type_at_number (Some n)) r.given in
        let w = are_of (type_at_number a) (Some ty) r.row in
        let typed_from : type_in x is_location (body_of g) t ≡ Some ty
        = (typed_parts x g (F.Place t) (type_at_number a) [] [] r.typed).0 ∙ w.is ∙ sym w.is_other in
        let m = many_value x g moving rest y to ty typed hooks in
        let may = (and_parts (fit.may_write (known x) (sigs x.table x.blocks) (globals_of x.table x.blocks) (body_of g).proc.places t) true r.written).0 in
        let p = at_place (g.call.temps.places t) (λ there. At (location_at g.call.temps there)) z have in
        let there_seen : is_seen g.world (location_at g.call.temps p.there) ≡ true
        = subst (λ u. is_seen g.world (location_of u) ≡ true) (sym p.is) seen in
        let b = bits_at x g moving rest y t p.there ty typed_from may m.many p.has there_seen in
        let h : Housed = location (around x.table x.blocks (body_of g)) t in
        subst (λ u. gives_moved (exchanged (location_of u) (default_of (facts_in x.table) ty))) p.is
        (move_settles x g moving rest y to n (bits_target x g moving rest y to ty refl refl typed m.many) m.handles m.many (location_at g.call.temps p.there)
        h h.home b.lies b.no_word b.bytes_are b.points refl)

  pub move_row : (n : ℕ) → hooked (form_of (facts_in x.table) (type_at (known x).types n)) ≡ true → (of : List (Option ℕ)) (from : List From)
      → OwnedRow x g rest to how O.Move (Some n) of from
  move_row n hooks [] from y xs have seen = never (fits_row x g rest to O.Move how (Some n) [] from y).row
  move_row n hooks (a ∷ b ∷ of) from y xs have seen = never (fits_row x g rest to O.Move how (Some n) (a ∷ b ∷ of) from y).row
  move_row n hooks (a ∷ []) [] y xs have seen = never (fits_row x g rest to O.Move how (Some n) (a ∷ []) [] y).typed
  move_row n hooks (a ∷ []) (f ∷ h ∷ from) y xs have seen =
      never (typed_parts x g f (type_at_number a) [] (h ∷ from) (fits_row x g rest to O.Move how (Some n) (a ∷ []) (f ∷ h ∷ from) y).typed).1
  move_row n hooks (a ∷ []) (F.Value t ∷ []) y xs have seen = never (fits_row x g rest to O.Move how (Some n) (a ∷ []) (F.Value t ∷ []) y).placed
  move_row n hooks (a ∷ []) (F.Place t ∷ []) y [] have seen = absurd have
  move_row n hooks (a ∷ []) (F.Place t ∷ []) y (z ∷ w ∷ xs) have seen = absurd have.1
  move_row n hooks (a ∷ []) (F.Place t ∷ []) y (z ∷ []) have seen =
      move_one n hooks a t y z have.0 (and_parts (is_seen g.world (location_of z)) (are_seen g.world []) seen).0

  -- ---- two locations trade what they have

  module _ (a b : Option ℕ) (n : ℕ) (is_n : type_at_number a ≡ Some (type_at (known x).types n))
      (hooks : hooked (form_of (facts_in x.table) (type_at (known x).types n)) ≡ true) (t u : ℕ) where
    abbrev swapping : BlockLine
    swapping = apply_line x g rest to O.Swap how None (a ∷ b ∷ []) (F.Place t ∷ F.Place u ∷ [])

    abbrev gives_swapped : Deed Value → Type 0
    gives_swapped d = Settles x (starts g swapping rest) rest
        (gives (scene_of (high x.table x.blocks (starts g swapping rest))) to (costs 1 d >>= (λ v. give v)))

    module _ (one other : Location) where
      abbrev first : Value
      first = load g.world one

      abbrev second : Value
      second = load g.world other

      abbrev world_then : World
      world_then = store g.world other first

      abbrev Then_does : Deed Value → Type 0
      Then_does deed = Settles x (starts g swapping rest) rest (Passes (behind [] 1 (behind [] (bytes first) (perform
          (((costs (bytes second) deed >> give nothing) >>= (λ v. give v)) >>= (λ v. give (with_value to g.call.temps v))) world_then))))

      -- both are there all the time, or the meaning is at a fault
      where_seen : (is_full_at g.world one ≡ true → is_full_at g.world other ≡ true → is_there world_then one ≡ true
          → may_change one.base ≡ true → may_change other.base ≡ true
          → Settles x (starts g swapping rest) rest (Passes (Answers [] (1 + (bytes first + (bytes second + 0))) (with_value to g.call.temps nothing)
          (store world_then one second)))) → gives_swapped (swapped one other)
      where_seen d =
          where_there x (starts g swapping rest) rest (is_full_at g.world one)
          (λ b. gives (scene_of (high x.table x.blocks (starts g swapping rest))) to (costs 1 (unless_gone b (exchanged other first)
          >>= (λ u. exchanged one u >> give nothing)) >>= (λ v. give v))) (λ before. tt)
          (λ full. where_there x (starts g swapping rest) rest (is_full_at g.world other)
          (λ b. gives (scene_of (high x.table x.blocks (starts g swapping rest))) to (costs 1 (costs (bytes first)
          (unless_gone b (changes other first >> give second)) >>= (λ u. exchanged one u >> give nothing)) >>= (λ v. give v))) (λ before. tt)
          (λ full_other. where_there x (starts g swapping rest) rest (may_change other.base)
          (λ b. gives (scene_of (high x.table x.blocks (starts g swapping rest))) to (costs 1 (costs (bytes first)
          (unless_gone b (sets other first) >> give second) >>= (λ u. exchanged one u >> give nothing)) >>= (λ v. give v))) (λ before. tt)
          (λ may_other. where_there x (starts g swapping rest) rest (is_there g.world other)
          (λ b. gives (scene_of (high x.table x.blocks (starts g swapping rest))) to (costs 1 (costs (bytes first)
          (unless_gone b (does (Stores other first)) >> give second) >>= (λ u. exchanged one u >> give nothing)) >>= (λ v. give v))) (λ before. tt)
          (λ live. where_there x (starts g swapping rest) rest (is_full_at world_then one)
          (λ b. Passes (behind [] 1 (behind [] (bytes first) (perform (((costs (bytes second)
          (unless_gone b (changes one second >> give (load world_then one))) >> give nothing) >>= (λ v. give v))
          >>= (λ v. give (with_value to g.call.temps v))) world_then)))) (λ before. tt)
          (λ full_then. where_there x (starts g swapping rest) rest (may_change one.base)
          (λ b. Passes (behind [] 1 (behind [] (bytes first) (perform (((costs (bytes second)
          (unless_gone b (sets one second) >> give (load world_then one)) >> give nothing) >>= (λ v. give v))
          >>= (λ v. give (with_value to g.call.temps v))) world_then)))) (λ before. tt)
          (λ may_one. where_there x (starts g swapping rest) rest (is_there world_then one)
          (λ b. Passes (behind [] 1 (behind [] (bytes first) (perform (((costs (bytes second)
          (unless_gone b (does (Stores one second)) >> give (load world_then one)) >> give nothing) >>= (λ v. give v))
          >>= (λ v. give (with_value to g.call.temps v))) world_then)))) (λ before. tt)
          (λ live_one. d full full_other live_one may_one may_other)))))))

    swap_two : (y : IsGood x (starts g swapping rest)) (z w : Operand) → fetch g.call.temps (F.Place t) ≡ Some z → fetch g.call.temps (F.Place u) ≡ Some w
        → is_seen g.world (location_of z) ≡ true → is_seen g.world (location_of w) ≡ true → gives_swapped (swapped (location_of z) (location_of w))
    swap_two y z w have have_other seen seen_other =
        let ty : Ty = type_at (known x).types n in
        let r : FitsRow x g rest to O.Swap how None (a ∷ b ∷ []) (F.Place t ∷ F.Place u ∷ []) y
        = fits_row x g rest to O.Swap how None (a ∷ b ∷ []) (F.Place t ∷ F.Place u ∷ []) y in
        let same = are_of (type_at_number a) (type_at_number b) r.row in
        let t1 = typed_parts x g (F.Place t) (type_at_number a) (type_at_number b ∷ []) (F.Place u ∷ []) r.typed in
        let t2 = typed_parts x g (F.Place u) (type_at_number b) [] [] t1.1 in
        let left_typed : type_in x is_location (body_of g) t ≡ Some ty = t1.0 ∙ is_n in
        let right_typed : type_in x is_location (body_of g) u ≡ Some ty = t2.0 ∙ same.is_other ∙ sym same.is ∙ is_n in
        let m = many_location x g swapping rest y t ty left_typed hooks in
        let may = and_parts (fit.may_write (known x) (sigs x.table x.blocks) (globals_of x.table x.blocks) (body_of g).proc.places t) _ r.written in
        let may_right = and_parts (fit.may_write (known x) (sigs x.table x.blocks) (globals_of x.table x.blocks) (body_of g).proc.places u) true may.1 in
        let p = at_place (g.call.temps.places t) (λ there. At (location_at g.call.temps there)) z have in
        let q = at_place (g.call.temps.places u) (λ there. At (location_at g.call.temps there)) w have_other in
        let left = bits_at x g swapping rest y t p.there ty left_typed may.0 m.many p.has
        (subst (λ v. is_seen g.world (location_of v) ≡ true) (sym p.is) seen) in
        let right = bits_at x g swapping rest y u q.there ty right_typed may_right.0 m.many q.has
        (subst (λ v. is_seen g.world (location_of v) ≡ true) (sym q.is) seen_other) in
        let home_of : ℕ → Home = λ i. (location (around x.table x.blocks (body_of g)) i).home in
        subst (λ v. gives_swapped (swapped (location_of v) (location_of w))) p.is
        (subst (λ v. gives_swapped (swapped (location_at g.call.temps p.there) (location_of v))) q.is
        (where_seen (location_at g.call.temps p.there) (location_at g.call.temps q.there)
        (λ full full_other live_one may_one may_other. swap_settles x g swapping rest y (location_at g.call.temps p.there) (location_at g.call.temps q.there)
        (shape_of (facts_in x.table) ty) (home_of t) (home_of u) (left.points may_one) (right.points may_other) (with_value to g.call.temps nothing)
        (none_temps x g swapping rest y to (no_type (value_type x g swapping rest y to) r.given)) full full_other live_one
        (ap₂ (λ b i. swap_code b (home_of t) (home_of u) i (code_next x g swapping rest y)) left.plain_letter left.bytes_are))))

  pub swap_row : (a b : Option ℕ) (n : ℕ) → type_at_number a ≡ Some (type_at (known x).types n)
      → hooked (form_of (facts_in x.table) (type_at (known x).types n)) ≡ true → (from : List From) → OwnedRow x g rest to how O.Swap None (a ∷ b ∷ []) from
  swap_row a b n is hooks [] y xs have seen = never (fits_row x g rest to O.Swap how None (a ∷ b ∷ []) [] y).typed
  swap_row a b n is hooks (f ∷ []) y xs have seen =
      never (typed_parts x g f (type_at_number a) (type_at_number b ∷ []) [] (fits_row x g rest to O.Swap how None (a ∷ b ∷ []) (f ∷ []) y).typed).1
  swap_row a b n is hooks (f ∷ h ∷ i ∷ from) y xs have seen =
      let t = typed_parts x g f (type_at_number a) (type_at_number b ∷ []) (h ∷ i ∷ from)
      (fits_row x g rest to O.Swap how None (a ∷ b ∷ []) (f ∷ h ∷ i ∷ from) y).typed in
      never (typed_parts x g h (type_at_number b) [] (i ∷ from) t.1).1
  swap_row a b n is hooks (F.Value t ∷ f ∷ []) y xs have seen =
      never (fits_row x g rest to O.Swap how None (a ∷ b ∷ []) (F.Value t ∷ f ∷ []) y).placed
  swap_row a b n is hooks (F.Place t ∷ F.Value u ∷ []) y xs have seen =
      never (fits_row x g rest to O.Swap how None (a ∷ b ∷ []) (F.Place t ∷ F.Value u ∷ []) y).placed
  swap_row a b n is hooks (F.Place t ∷ F.Place u ∷ []) y [] have seen = absurd have
  swap_row a b n is hooks (F.Place t ∷ F.Place u ∷ []) y (z ∷ []) have seen = absurd have.1
  swap_row a b n is hooks (F.Place t ∷ F.Place u ∷ []) y (z ∷ w ∷ v ∷ xs) have seen = absurd have.1.1
  swap_row a b n is hooks (F.Place t ∷ F.Place u ∷ []) y (z ∷ w ∷ []) have seen =
      let p = and_parts (is_seen g.world (location_of z)) (are_seen g.world (w ∷ [])) seen in
      let q = and_parts (is_seen g.world (location_of w)) (are_seen g.world []) p.1 in
      swap_two a b n is hooks t u y z w have.0 have.1.0 p.0 q.0
