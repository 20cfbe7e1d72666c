-- What waits in a procedure has homes and variables of its own, behind those of all places.
use Rattle.std.proofs.Common.{◌≡◌, ◌⊎◌, inl, inr, refl, sym, ap, subst, ◌∙◌, ℕ, ◌%◌, List, [], ◌∷◌, map, arith}
use Rattle.std.proofs.Common.{Bool, true, false, Option, Some, None}
use Rattle.std.proofs.lemmas.Option.{none-some}
use Rattle.nim_types.specs.declared.types.TypeDef.{TypeDef}
use Rattle.nim_types.specs.Table.{facts_in, types_in, type_at, IsTable}
use Rattle.flat_code.specs.declared.line.Line.{Line}
use Rattle.flat_code.specs.declared.place.FlatPlace.{FlatPlace}
use Rattle.flat_code.specs.declared.place.PlaceKind.{PlaceKind}
use Rattle.flat_code.specs.declared.place.PlaceKind.TheVariants as K
use Rattle.flat_code.specs.declared.block.BlockLine.{BlockLine}
use Rattle.flat_code.specs.declared.code.Code.{Code}
use Rattle.flat_code.specs.declared.code.CodeProc.{CodeProc}
use Rattle.flat_code.specs.Codes.{block_plain}
use Rattle.flat_code.specs.Shapes.{shape_of}
use Rattle.word_lowering.specs.declared.homes.Alias.{Alias}
use Rattle.word_lowering.specs.declared.homes.Alias.TheVariants as alias
use Rattle.word_lowering.specs.declared.homes.Free.{Free}
use Rattle.word_lowering.specs.declared.homes.Home.{Home}
use Rattle.word_lowering.specs.declared.homes.Home.TheVariants.{Variable, Placed, Static}
use Rattle.word_lowering.specs.declared.homes.Housed.{Housed}
use Rattle.word_lowering.specs.declared.homes.Waiter.{Waiter}
use Rattle.word_lowering.specs.declared.texts.TheConstants.{FIXED_BYTES}
use Rattle.word_lowering.specs.Stored.{bytes_at, is_hooked, HaveForms}
use Rattle.word_lowering.specs.Layouts.{waits_by, bytes_by, place_alias, place_bytes, behind, behind_all, all_housed, behind_waiter, and_waiter, waiters}
use Rattle.word_lowering.specs.Layouts.{free_at, layout_of}
use Rattle.word_lowering.specs.WaitingCode.{waiter_at, waiting_house}
use Rattle.word_lowering.proofs.HomesApart.{IsBetween, all_between, grows_all}
use Rattle.word_lowering.proofs.LayoutBounds.{place_whole, room_whole}
use Rattle.word_lowering.proofs.LetterShapes.{no_letter}
use Rattle.word_lowering.proofs.PlaceFacts.{each_among, place_shape_bytes, place_rows, place_parts}
use Rattle.word_lowering.proofs.ShapeFacts.{never}
use Rattle.word_lowering.proofs.Sites.{Body, Among, in_places, is_one_word, IsHoused, IsTakenBefore, AreWaiters}
use Rattle.word_lowering.proofs.Waiters.{first, first_or_next, behind_all as waiter_behind, before_all as waiter_before, apart as waiters_apart}

-- it is that of a temporary whose type has hooks
waits_for : (kind : PlaceKind) (name : Alias) (hooked : Bool) (waits : Option ℕ) (node : ℕ) → waits_by kind name hooked waits ≡ Some node
    → (kind ≡ K.Temp) × (hooked ≡ true)
waits_for K.Temp alias.Own true waits node e = (refl, refl)
waits_for K.Temp alias.Own false waits node e = absurd (none-some node e)
waits_for K.Temp name hooked waits node e = absurd (none-some node e)
waits_for kind name hooked waits node e = absurd (none-some node e)

module _ (table : List TypeDef) (start : Bool) (lines : List Line) where
  record IsMade (w : Waiter) : Type 0 where
    hooked : is_hooked table w.ty ≡ true
    bytes : w.bytes ≡ bytes_at table w.ty
    whole : w.at % 4 ≡ 0

  is_made : (least free : Free) (ps : List FlatPlace) → free.byte % 4 ≡ 0 → (node : ℕ) (w : Waiter)
      → waiter_at node (waiters free (all_housed table start lines least ps)) ≡ Some w → IsMade w
  is_made least free [] whole node w e = absurd (none-some w e)
  is_made least free (p ∷ ps) whole node w e =
      by (waits_by p.kind (place_alias table start lines p) (is_hooked table p.ty) p.waits) refl
      (λ f even i. is_made (behind table start lines least p) f ps even node w i) e
    where
      bytes_here : ℕ
      bytes_here = place_bytes table start lines p

      hs : List Housed
      hs = all_housed table start lines (behind table start lines least p) ps

      by : (o : Option ℕ) → waits_by p.kind (place_alias table start lines p) (is_hooked table p.ty) p.waits ≡ o
          → ((f : Free) → f.byte % 4 ≡ 0 → waiter_at node (waiters f hs) ≡ Some w → IsMade w)
          → waiter_at node (and_waiter o p.ty bytes_here free (waiters (behind_waiter o bytes_here free) hs)) ≡ Some w → IsMade w
      by None is go e = go free whole e
      by (Some n) is go e = one (first_or_next node n p.ty bytes_here free (waiters (behind_waiter (Some n) bytes_here free) hs) w e)
        where
          one : ((n ≡ node) × (first n p.ty bytes_here free ≡ w)) ⊎ (waiter_at node (waiters (behind_waiter (Some n) bytes_here free) hs) ≡ Some w)
              → IsMade w
          one (inl s) =
              let k = waits_for p.kind (place_alias table start lines p) (is_hooked table p.ty) p.waits n is in
              subst IsMade s.1 (record { hooked = k.1; bytes = ap (λ kind. bytes_by kind (bytes_at table p.ty)) k.0; whole = whole })
          one (inr i) = go (behind_waiter (Some n) bytes_here free) (let even = place_whole table start lines p in omega (arith, even, whole)) i

-- ---- in the layout of a procedure

module _ (table : List TypeDef) (blocks : Code BlockLine) (is_table : IsTable table) (have : HaveForms table)
    (no_word : (ty : ℕ) → is_hooked table ty ≡ true → is_one_word (shape_of (facts_in table) (type_at (types_in table) ty)) ≡ false)
    (start : Bool) (proc : CodeProc BlockLine) (literals number : ℕ) where
  abbrev body : Body
  body = record { own = layout_of table start FIXED_BYTES proc; start = start; literals = literals; number = number; proc = proc }

  abbrev lines : List Line
  lines = map block_plain proc.lines

  abbrev least : Free
  least = free_at FIXED_BYTES

  abbrev most : Free
  most = behind_all table start lines least proc.places

  abbrev all : List Housed
  all = all_housed table start lines least proc.places

  house_of : (node : ℕ) (w : Waiter) → waiter_at node (waiters most all) ≡ Some w → IsHoused table blocks body (waiting_house w)
  house_of node w e =
      let made = is_made table start lines least most proc.places (room_whole table start lines least proc.places refl) node w e in
      let before = waiter_before most all node w e in
      record {
        bytes = place_shape_bytes table is_table have K.Temp w.ty ∙ sym made.bytes;
        word = no_word w.ty made.hooked;
        letter = no_letter (shape_of (facts_in table) (type_at (types_in table) w.ty)) (no_word w.ty made.hooked);
        where_is = in_places w.at refl refl made.whole (let end = before.ends in omega (arith, end));
        kept = λ v word. never word;
        numbers = λ h. never (sym h ∙ made.hooked);
        unhooked = λ h. never (sym h ∙ made.hooked);
        unlent = λ h. refl;
        rows = place_rows table is_table have K.Temp w.ty;
        fields = place_parts table is_table have K.Temp w.ty;
      }

  taken_before : (node : ℕ) (w : Waiter) → waiter_at node (waiters most all) ≡ Some w → (h : Housed) → Among h all → h.alias ≡ alias.Own
      → IsTakenBefore table blocks h.home h.bytes w
  taken_before node w e h i own = by h.home (each_among _ all h (all_between table start lines least proc.places) i own)
    where
      by : (home : Home) → IsBetween least most h.bytes home → IsTakenBefore table blocks home h.bytes w
      by (Variable v) c =
          let b = waiter_behind most all node w e in
          let low = b.variable in
          let high = c.1 in
          λ f. absurd (omega (arith, f, low, high))
      by (Placed at) c = let b = waiter_behind most all node w e in let low = b.begins in let high = c.1 in omega (arith, low, high)
      by (Static at) c = tt

  pub are_waiters : AreWaiters table blocks body
  are_waiters = record {
    housed = house_of;
    variable = λ node w e.
        let b = waiter_behind most all node w e in
        let g = grows_all table start lines least proc.places in
        let low = b.variable in
        let more = g.variable in
        omega (arith, low, more);
    behind = taken_before;
    apart = λ n m w u ne e f. waiters_apart most all n m w u ne e f;
  }
