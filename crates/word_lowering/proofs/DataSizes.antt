-- The data of word code is whole words, and no more than what block code's takes.
use Rattle.std.proofs.Common.{nat_le, ◌&&◌, ◌≡◌, ℕ, ◌+◌, ◌*◌, ◌-◌, ◌%◌, ◌≤◌, List, [], ◌∷◌, ◌++◌, length, map, replicate, Bool, true, false}
use Rattle.std.proofs.Common.{refl, sym, ap, ◌∙◌, arith, add-zero, length-append}
use Rattle.std.proofs.lemmas.Bool.{and_parts, leb-true}
use Rattle.nim_types.specs.declared.types.TypeDef.{TypeDef}
use Rattle.nim_types.specs.declared.types.TypeDef.TheVariants as D
use Rattle.nim_program.specs.TextSizes.{text_bytes, all_bytes}
use Rattle.rv32_isa.specs.Words.{word_bytes}
use Rattle.rv32_isa.proofs.ForCallers.{length-word_bytes}
use Rattle.flat_code.specs.declared.block.BlockLine.{BlockLine}
use Rattle.flat_code.specs.declared.code.Code.{Code}
use Rattle.flat_code.specs.declared.code.CodeProc.{CodeProc}
use Rattle.flat_code.specs.declared.line.Line.{Line}
use Rattle.flat_code.specs.declared.place.PlaceKind.{PlaceKind}
use Rattle.flat_code.specs.declared.place.PlaceKind.TheVariants as K
use Rattle.flat_code.specs.declared.place.FlatPlace.{FlatPlace}
use Rattle.flat_code.specs.Codes.{block_plain}
use Rattle.flat_code.specs.Fits.{start_places}
use Rattle.flat_code.specs.Running.{last_of}
use Rattle.flat_code.specs.Scene.{known_in}
use Rattle.flat_code.specs.Sizes.{constants_bytes, distinct_texts, global_bytes, globals_bytes, handled_bytes, members_bytes, names_bytes, data_bytes}
use Rattle.word_lowering.specs.declared.homes.Alias.{Alias}
use Rattle.word_lowering.specs.declared.homes.Alias.TheVariants.{Own, Place, Value, Node, Text}
use Rattle.word_lowering.specs.declared.homes.Free.{Free}
use Rattle.word_lowering.specs.declared.homes.Layout.{Layout}
use Rattle.word_lowering.specs.declared.lowering.TheConstants.{MORE_DATA}
use Rattle.word_lowering.specs.declared.may_lower.TheConstants.{MOST_DATA}
use Rattle.word_lowering.specs.declared.handed.TheConstants.{LEFT_HANDLE_AT}
use Rattle.word_lowering.specs.declared.texts.TheConstants.{FIXED_BYTES}
use Rattle.word_lowering.specs.Aliases.{alias_for}
use Rattle.word_lowering.specs.Stored.{bytes_at}
use Rattle.word_lowering.specs.Layouts.{all_housed, is_static, free_behind, free_by, bytes_by, place_kept, behind, behind_all, free_at, layouts, layout_of}
use Rattle.word_lowering.specs.LineCode.{no_layout}
use Rattle.word_lowering.specs.Lowered.{globals_end, data_of, lowered}
use Rattle.word_lowering.specs.Linked.{laid_out}
use Rattle.word_lowering.specs.Texts.{padded, fixed_texts, members_of, all_names, joined_all, starts_from, ends_from, texts_at, texts_from, data_at, data_in}
use Rattle.word_lowering.specs.MayLower.{defs_may, labels_may, procs_may, may_lower}
use Rattle.word_lowering.proofs.EntryNames.{joined_append}
use Rattle.word_lowering.proofs.DistinctTexts.{laid_long}
use Rattle.word_lowering.proofs.LaidOut.{laid_within}
use Rattle.word_lowering.proofs.Padding.{zeros_length, padded_whole, padded_most}
use Rattle.word_lowering.proofs.WaiterHomes.{waiters_datum}

-- ---- texts

text_most : (text : List ℕ) → length text + 4 ≤ text_bytes text
text_most text = omega arith

-- ---- names of enums

names_most : (names : List (List ℕ)) → length (joined_all names) + 4 * length names ≤ all_bytes names
names_most [] = omega arith
names_most (name ∷ names) =
    let e = length-append name (joined_all names) in
    let h = names_most names in
    let i = text_most name in
    omega (arith, e, h, i)

members_most : (def : TypeDef) → length (joined_all (members_of def)) + 4 * length (members_of def) ≤ members_bytes def
members_most (D.Enum name at members) = names_most members
members_most D.Int = omega arith
members_most D.Bool = omega arith
members_most D.Char = omega arith
members_most D.Text = omega arith
members_most (D.Seq i) = omega arith
members_most (D.Param n) = omega arith
members_most (D.Array n i) = omega arith
members_most (D.Tuple names is) = omega arith
members_most (D.Object name at is all own_hooks parts) = omega arith
members_most (D.Distinct name at i) = omega arith
members_most (D.Ref name i) = omega arith
members_most (D.Exception name at parent) = omega arith

all_names_most : (table : List TypeDef) → length (joined_all (all_names table)) + 4 * length (all_names table) ≤ names_bytes table
all_names_most [] = omega arith
all_names_most (def ∷ table) =
    let e = length-append (members_of def) (all_names table) in
    let f = ap length (joined_append (members_of def) (all_names table)) in
    let g = length-append (joined_all (members_of def)) (joined_all (all_names table)) in
    let h = all_names_most table in
    let i = members_most def in
    omega (arith, e, f, g, h, i)

starts_length : (n : ℕ) (names : List (List ℕ)) (k : List ℕ) → length (starts_from n names k) ≡ 4 * length names + length k
starts_length n [] k = omega arith
starts_length n (name ∷ names) k =
    let e = length-append (word_bytes n) (starts_from (n + length name) names k) in
    let f = length-word_bytes n in
    let h = starts_length (n + length name) names k in
    omega (arith, e, f, h)

pub ends_length : (n : ℕ) (names : List (List ℕ)) → length (ends_from n names) ≡ 4 * length names + 4
ends_length n names =
    let e = starts_length n names (word_bytes (n + length (joined_all names))) in
    let f = length-word_bytes (n + length (joined_all names)) in
    omega (arith, e, f)

-- ---- globals

free_datum : (alias : Alias) (low high : Free) → high.datum ≡ low.datum → (free_by alias low high).datum ≡ low.datum + 0
free_datum Own low high e = e ∙ sym (add-zero low.datum)
free_datum (Place p global) low high e = sym (add-zero low.datum)
free_datum (Value t) low high e = sym (add-zero low.datum)
free_datum (Node n) low high e = sym (add-zero low.datum)
free_datum (Text behind bytes) low high e = sym (add-zero low.datum)

kept_datum : (kept : Bool) (n : ℕ) (free : Free) → (free_behind false kept n free).datum ≡ free.datum
kept_datum true n free = refl
kept_datum false n free = refl

pub datum_by : (alias : Alias) (kept : Bool) (n : ℕ) (free : Free) → (free_by alias free (free_behind false kept n free)).datum ≡ free.datum + 0
datum_by alias kept n free = free_datum alias free (free_behind false kept n free) (kept_datum kept n free)

datum_step : (kind : PlaceKind) (number : ℕ) (lines : List Line) (kept : Bool) (n : ℕ) (free : Free)
    → (free_by (alias_for kind number lines) free (free_behind (is_static true kind) kept (bytes_by kind n) free)).datum
    ≡ free.datum + global_bytes kind n
datum_step K.Global number lines kept n free = refl
datum_step (K.Param mode) number lines kept n free = datum_by Own kept n free
datum_step K.Local number lines kept n free = datum_by (alias_for K.Local number lines) kept n free
datum_step K.Cursor number lines kept n free = datum_by (alias_for K.Cursor number lines) kept n free
datum_step K.Result number lines kept n free = datum_by (alias_for K.Result number lines) kept n free
datum_step K.ForVar number lines kept n free = datum_by (alias_for K.ForVar number lines) kept n free
datum_step K.Caught number lines kept n free = datum_by (alias_for K.Caught number lines) kept n free
datum_step K.Temp number lines kept n free = datum_by (alias_for K.Temp number lines) kept n free
datum_step K.Location number lines kept n free = datum_by (alias_for K.Location number lines) kept n free
datum_step K.Within number lines kept n free = datum_by (alias_for K.Within number lines) kept n free
datum_step K.Counter number lines kept n free = datum_by Own kept (bytes_by K.Counter n) free

module _ (table : List TypeDef) where
  datum_is : (lines : List Line) (free : Free) (ps : List FlatPlace)
      → (behind_all table true lines free ps).datum ≡ free.datum + globals_bytes (known_in table) ps
  datum_is lines free [] = sym (add-zero free.datum)
  datum_is lines free (p ∷ ps) =
      let e = datum_step p.kind p.number lines (place_kept table true lines p) (bytes_at table p.ty) free in
      let h = datum_is lines (behind table true lines free p) ps in
      omega (arith, e, h)

  last_datum : (datum : ℕ) (none : Layout) (p : CodeProc BlockLine) (ps : List (CodeProc BlockLine))
      → (last_of none (layouts table datum (p ∷ ps))).free.datum ≡ datum + globals_bytes (known_in table) (start_places (p ∷ ps))
  last_datum datum none p [] =
      waiters_datum (behind_all table true (map block_plain p.lines) (free_at datum) p.places)
      (all_housed table true (map block_plain p.lines) (free_at datum) p.places)
      ∙ datum_is (map block_plain p.lines) (free_at datum) p.places
  last_datum datum none p (q ∷ ps) = last_datum datum (layout_of table false datum p) q ps

-- ---- all of it

pub six_parts : (a b c d e f : List ℕ) → length (a ++ (b ++ (c ++ (d ++ (e ++ f))))) ≡ length a + (length b + (length c + (length d + (length e + length f))))
six_parts a b c d e f =
    let h = length-append a (b ++ (c ++ (d ++ (e ++ f)))) in
    let i = length-append b (c ++ (d ++ (e ++ f))) in
    let j = length-append c (d ++ (e ++ f)) in
    let k = length-append d (e ++ f) in
    let l = length-append e f in
    omega (arith, h, i, j, k, l)

fixed_length : length fixed_texts ≡ 16
fixed_length = refl

data_length : (table : List TypeDef) (globals_end : ℕ) (procs : List (CodeProc BlockLine))
    → length (data_in table globals_end procs) ≤ 27 + (globals_end - LEFT_HANDLE_AT) + (names_bytes table
    + (handled_bytes (distinct_texts block_plain procs) + constants_bytes block_plain procs))
data_length table globals_end procs =
    let names : List (List ℕ) = all_names table in
    let e = six_parts (replicate 4 0) fixed_texts (replicate (globals_end - LEFT_HANDLE_AT) 0) (ends_from 0 names) (padded (joined_all names))
    (texts_from table globals_end procs) in
    let f = zeros_length (globals_end - LEFT_HANDLE_AT) in
    let g = ends_length 0 names in
    let h = all_names_most table in
    let i = laid_within (data_at + texts_at table globals_end) procs in
    let m = laid_long (data_at + texts_at table globals_end) (laid_out (data_at + texts_at table globals_end) procs) in
    let j = fixed_length in
    let k = zeros_length 4 in
    let l = padded_most (joined_all names) in
    omega (arith, e, f, g, h, i, j, k, l, m)

data_by : (table : List TypeDef) (procs : List (CodeProc BlockLine)) → length (data_of table procs) ≤ data_bytes block_plain table procs + MORE_DATA
data_by table [] =
    let h = data_length table 0 [] in
    let i = padded_most (data_in table 0 []) in
    omega (arith, h, i)
data_by table (p ∷ ps) =
    let globals_end : ℕ = (last_of no_layout (layouts table FIXED_BYTES (p ∷ ps))).free.datum in
    let e : globals_end ≡ FIXED_BYTES + globals_bytes (known_in table) (start_places (p ∷ ps)) =
    last_datum table FIXED_BYTES no_layout p ps in
    let h = data_length table globals_end (p ∷ ps) in
    let i = padded_most (data_in table globals_end (p ∷ ps)) in
    omega (arith, e, h, i)

pub data_whole : (table : List TypeDef) (blocks : Code BlockLine) → length (lowered table blocks).statics % 4 ≡ 0
data_whole table blocks = padded_whole (data_in table (globals_end table blocks.procs) blocks.procs)

pub data_sized : (table : List TypeDef) (blocks : Code BlockLine)
    → length (lowered table blocks).statics ≤ data_bytes block_plain table blocks.procs + MORE_DATA
data_sized table blocks = data_by table blocks.procs

pub data_within : (table : List TypeDef) (blocks : Code BlockLine) → may_lower table blocks ≡ true → length (lowered table blocks).statics ≤ MOST_DATA
data_within table blocks may = leb-true _ MOST_DATA
    (and_parts (nat_le (length (data_of table blocks.procs)) MOST_DATA) (defs_may table && labels_may blocks.procs)
    (and_parts (procs_may table _ blocks.procs) _ may).1).0

-- its types are as they may be
pub defs_within : (table : List TypeDef) (blocks : Code BlockLine) → may_lower table blocks ≡ true → defs_may table ≡ true
defs_within table blocks may =
    (and_parts (defs_may table) (labels_may blocks.procs)
    (and_parts (nat_le (length (data_of table blocks.procs)) MOST_DATA) (defs_may table && labels_may blocks.procs)
    (and_parts (procs_may table _ blocks.procs) _ may).1).1).0
