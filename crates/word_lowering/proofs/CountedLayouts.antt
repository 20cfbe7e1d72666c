-- What layouts take has numbers of 32 bits where word code has room for them, and so has what each of their places takes.
use Rattle.std.proofs.Common.{◌≡◌, ℕ, suc, ◌+◌, ◌≤◌, ◌<◌, List, [], ◌∷◌, length, map, drop, get_or, Bool, true, false, Some, slice_get, zero}
use Rattle.std.proofs.Common.{refl, sym, ap, subst, ◌∙◌, arith, add-zero}
use Rattle.std.specs.Prelude.{if◌then◌else◌, IfSome}
use Rattle.std.proofs.lemmas.Bool.{and_parts}
use Rattle.std.proofs.lemmas.List.{drop_more}
use Rattle.std.proofs.lemmas.Option.{none-some, same_Some}
use Rattle.nim_types.specs.declared.types.TypeDef.{TypeDef}
use Rattle.flat_code.specs.declared.line.Line.{Line}
use Rattle.flat_code.specs.declared.place.PlaceKind.{PlaceKind}
use Rattle.flat_code.specs.declared.place.PlaceKind.TheVariants as K
use Rattle.flat_code.specs.declared.place.FlatPlace.{FlatPlace}
use Rattle.flat_code.specs.declared.block.BlockLine.{BlockLine}
use Rattle.flat_code.specs.declared.code.Code.{Code}
use Rattle.flat_code.specs.declared.code.CodeProc.{CodeProc}
use Rattle.flat_code.specs.Codes.{block_plain}
use Rattle.flat_code.specs.Running.{last_of}
use Rattle.word_lowering.specs.declared.homes.Free.{Free}
use Rattle.word_lowering.specs.declared.homes.Layout.{Layout}
use Rattle.word_lowering.specs.declared.texts.TheConstants.{FIXED_BYTES}
use Rattle.word_lowering.specs.Layouts.{is_static, free_at, free_behind, free_by, place_alias, place_bytes, place_kept, behind, behind_all}
use Rattle.word_lowering.specs.declared.homes.Alias.{Alias}
use Rattle.word_lowering.specs.declared.homes.Alias.TheVariants.{Own, Place, Value, Node, Text}
use Rattle.word_lowering.specs.declared.homes.Housed.{Housed}
use Rattle.word_lowering.specs.declared.may_lower.TheConstants.{MOST_ROOM}
use Rattle.word_lowering.specs.Layouts.{layout_of, layouts, home_by, home_at, all_housed, is_param, is_result, params_in, result_in}
use Rattle.word_lowering.specs.Layouts.{AreNumbers, BeginsBy, AllBeginBy, IsCounted, AreCounted}
use Rattle.word_lowering.specs.LineCode.{no_layout, or_none}
use Rattle.word_lowering.specs.Lowered.{all_layouts}
use Rattle.word_lowering.specs.MayLower.{proc_may, procs_may, may_lower}
use Rattle.word_lowering.proofs.DataSizes.{datum_by}
use Rattle.word_lowering.proofs.HomesApart.{grows_all}
use Rattle.word_lowering.proofs.NamedProcs.{Fits, fits_by}
use Rattle.word_lowering.proofs.RoomBounds.{data_small}
use Rattle.word_lowering.proofs.WaiterHomes.{waiters_datum, waiters_grow}

-- ---- the start code alone takes data

not_static : (kind : PlaceKind) → is_static false kind ≡ false
not_static K.Local = refl
not_static K.Cursor = refl
not_static K.Result = refl
not_static (K.Param mode) = refl
not_static K.ForVar = refl
not_static K.Caught = refl
not_static K.Global = refl
not_static K.Temp = refl
not_static K.Location = refl
not_static K.Within = refl
not_static K.Counter = refl

module _ (table : List TypeDef) (lines : List Line) where
  datum_next : (free : Free) (p : FlatPlace) → (behind table false lines free p).datum ≡ free.datum
  datum_next free p =
      let alias = place_alias table false lines p in
      let kept : Bool = place_kept table false lines p in
      let bytes : ℕ = place_bytes table false lines p in
      subst (λ s. (free_by alias free (free_behind s kept bytes free)).datum ≡ free.datum) (sym (not_static p.kind))
      (datum_by alias kept bytes free ∙ add-zero free.datum)

  datum_same : (free : Free) (ps : List FlatPlace) → (behind_all table false lines free ps).datum ≡ free.datum
  datum_same free [] = refl
  datum_same free (p ∷ ps) = datum_same (behind table false lines free p) ps ∙ datum_next free p

-- ---- where places begin

home_begins : (alias : Alias) (static kept : Bool) (bytes : ℕ) (free : Free) (n : ℕ)
    → (free_by alias free (free_behind static kept bytes free)).byte ≤ n → BeginsBy n (home_by alias (home_at static kept free))
home_begins Own true kept bytes free n le = tt
home_begins Own false true bytes free n le = tt
home_begins Own false false bytes free n le = omega (arith, le)
home_begins (Place p global) static kept bytes free n le = tt
home_begins (Value t) static kept bytes free n le = tt
home_begins (Node m) static kept bytes free n le = tt
home_begins (Text behind more) static kept bytes free n le = tt

places_begin : (table : List TypeDef) (start : Bool) (lines : List Line) (free : Free) (ps : List FlatPlace) (n : ℕ)
    → (behind_all table start lines free ps).byte ≤ n → AllBeginBy n (all_housed table start lines free ps)
places_begin table start lines free [] n le = tt
places_begin table start lines free (p ∷ ps) n le =
    let next : Free = behind table start lines free p in
    let grows = (grows_all table start lines next ps).byte in (
      home_begins (place_alias table start lines p) (is_static start p.kind) (place_kept table start lines p) (place_bytes table start lines p) free n
          (omega (arith, le, grows)),
      places_begin table start lines next ps n le,
    )

-- those of parameters, and that of the result
pub params_begin : (n : ℕ) (hs : List Housed) → AllBeginBy n hs → AllBeginBy n (params_in hs)
params_begin n [] all = tt
params_begin n (h ∷ hs) all = by (is_param h.kind) (params_begin n hs all.1)
  where
    by : (b : Bool) → AllBeginBy n (params_in hs) → AllBeginBy n (if b then h ∷ params_in hs else params_in hs)
    by true rest = (all.0, rest)
    by false rest = rest

pub result_begins : (n : ℕ) (hs : List Housed) → AllBeginBy n hs → IfSome (result_in hs) (λ r. BeginsBy n r.home)
result_begins n [] all = tt
result_begins n (h ∷ hs) all = by (is_result h.kind) (result_begins n hs all.1)
  where
    by : (b : Bool) → IfSome (result_in hs) (λ r. BeginsBy n r.home) → IfSome (if b then Some h else result_in hs) (λ r. BeginsBy n r.home)
    by true rest = all.0
    by false rest = rest

-- ---- layouts

module _ (table : List TypeDef) (datum : ℕ) where
  one_counted : (start : Bool) (p : CodeProc BlockLine) → proc_may table (layout_of table start datum p) p ≡ true
      → (layout_of table start datum p).free.datum ≤ 4294967295 → IsCounted (layout_of table start datum p)
  one_counted start p may small =
      let own : Layout = layout_of table start datum p in
      let fits : Fits own p = fits_by table own p may in
      let variables = fits.vars in
      let bytes = fits.room in
      let more = (waiters_grow (behind_all table start (map block_plain p.lines) (free_at datum) p.places) own.all).byte in
      let arguments = fits.arguments in
      record {
        free = record { variable = omega (arith, variables); byte = omega (arith, bytes); datum = small };
        given = omega (arith, arguments);
        room = bytes;
        places = places_begin table start (map block_plain p.lines) (free_at datum) p.places MOST_ROOM (omega (arith, bytes, more));
      }

  all_counted : (none : Layout) (procs : List (CodeProc BlockLine)) → datum ≤ 4294967295 → procs_may table (layouts table datum procs) procs ≡ true
      → (last_of none (layouts table datum procs)).free.datum ≤ 4294967295 → AreCounted (layouts table datum procs)
  all_counted none [] small may last = tt
  all_counted none (p ∷ []) small may last =
      let own : Layout = layout_of table true datum p in
      (one_counted true p (and_parts (proc_may table own p) true may).0 last, tt)
  all_counted none (p ∷ q ∷ ps) small may last =
      let own : Layout = layout_of table false datum p in
      let both = and_parts (proc_may table own p) (procs_may table (layouts table datum (q ∷ ps)) (q ∷ ps)) may in
      let same = waiters_datum (behind_all table false (map block_plain p.lines) (free_at datum) p.places) own.all
      ∙ datum_same table (map block_plain p.lines) (free_at datum) p.places in
      (one_counted false p both.0 (omega (arith, same, small)), all_counted own (q ∷ ps) small both.1 last)

pub layouts_counted : (table : List TypeDef) (blocks : Code BlockLine) → may_lower table blocks ≡ true → AreCounted (all_layouts table blocks.procs)
layouts_counted table blocks may =
    let last = data_small table blocks may in
    all_counted table FIXED_BYTES no_layout blocks.procs (omega arith) (and_parts (procs_may table (all_layouts table blocks.procs) blocks.procs) _ may).0
    (omega (arith, last))

pub counted_at : (owns : List Layout) (i : ℕ) (own : Layout) → AreCounted owns → slice_get owns i ≡ Some own → IsCounted own
counted_at [] i own counted e = absurd (none-some own e)
counted_at (o ∷ owns) zero own counted e = subst IsCounted (same_Some o own e) counted.0
counted_at (o ∷ owns) (suc i) own counted e = counted_at owns i own counted.1 e

-- of a procedure by its number
pub places_at : (owns : List Layout) (proc : ℕ) → AreCounted owns → AllBeginBy MOST_ROOM (or_none (slice_get owns proc)).all
places_at [] proc counted = tt
places_at (o ∷ owns) zero counted = counted.0.places
places_at (o ∷ owns) (suc proc) counted = places_at owns proc counted.1

-- ---- places of a layout, one after another

pub less_numbers : (low high : Free) → low.variable ≤ high.variable → low.byte ≤ high.byte → low.datum ≤ high.datum → AreNumbers high → AreNumbers low
less_numbers low high v b d small =
    let variable = small.variable in
    let byte = small.byte in
    let datum = small.datum in
    record { variable = omega (arith, v, variable); byte = omega (arith, b, byte); datum = omega (arith, d, datum) }

module _ (table : List TypeDef) (start : Bool) (lines : List Line) where
  pub next_small : (places : List FlatPlace) (i : ℕ) (none : FlatPlace) (free all : Free) → i < length places
      → behind_all table start lines free (drop i places) ≡ all → AreNumbers all → AreNumbers (behind table start lines free (get_or places i none))
  next_small places i none free all within before small =
      let next : Free = behind table start lines free (get_or places i none) in
      let rest : List FlatPlace = drop (i + 1) places in
      let grows = grows_all table start lines next rest in
      less_numbers next (behind_all table start lines next rest) grows.variable grows.byte grows.datum
      (subst AreNumbers (sym before ∙ ap (λ (ps : List FlatPlace). behind_all table start lines free ps) (drop_more places i none within)) small)
