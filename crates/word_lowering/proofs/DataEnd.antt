-- Where the data of globals ends: behind what each program has, at a whole number of words.
use Rattle.std.proofs.Common.{◌≡◌, ℕ, ◌%◌, ◌≤◌, List, [], ◌∷◌, map, Bool, true, false, refl, sym, subst, arith}
use Rattle.std.proofs.lemmas.Bool.{true≢false}
use Rattle.nim_types.specs.declared.types.TypeDef.{TypeDef}
use Rattle.flat_code.specs.declared.block.BlockLine.{BlockLine}
use Rattle.flat_code.specs.declared.code.Code.{Code}
use Rattle.flat_code.specs.declared.code.CodeProc.{CodeProc}
use Rattle.flat_code.specs.declared.line.Line.{Line}
use Rattle.flat_code.specs.declared.place.FlatPlace.{FlatPlace}
use Rattle.flat_code.specs.Codes.{block_plain}
use Rattle.flat_code.specs.Running.{last_of}
use Rattle.word_lowering.specs.declared.homes.Alias.{Alias}
use Rattle.word_lowering.specs.declared.homes.Alias.TheVariants.{Own}
use Rattle.word_lowering.specs.declared.homes.Free.{Free}
use Rattle.word_lowering.specs.declared.homes.Layout.{Layout}
use Rattle.word_lowering.specs.declared.texts.TheConstants.{FIXED_BYTES}
use Rattle.word_lowering.specs.Layouts.{all_housed, behind, behind_all, free_at, free_behind, free_by, is_empty, is_static, layout_of, layouts, place_alias}
use Rattle.word_lowering.specs.Layouts.{place_bytes, place_kept}
use Rattle.word_lowering.specs.LineCode.{no_layout}
use Rattle.word_lowering.proofs.HomesApart.{grows_all}
use Rattle.word_lowering.proofs.LayoutBounds.{place_whole}
use Rattle.word_lowering.proofs.Sites.{data_end}
use Rattle.word_lowering.proofs.WaiterHomes.{waiters_datum}

-- ---- behind what each program has

layout_least : (table : List TypeDef) (start : Bool) (datum : ℕ) (p : CodeProc BlockLine) → datum ≤ (layout_of table start datum p).free.datum
layout_least table start datum p =
    let lines : List Line = map block_plain p.lines in
    let places = (grows_all table start lines (free_at datum) p.places).datum in
    let more = waiters_datum (behind_all table start lines (free_at datum) p.places) (all_housed table start lines (free_at datum) p.places) in
    omega (arith, places, more)

data_least : (table : List TypeDef) (datum : ℕ) (o : Layout) (procs : List (CodeProc BlockLine)) → datum ≤ o.free.datum
    → datum ≤ (last_of o (layouts table datum procs)).free.datum
data_least table datum o [] h = h
data_least table datum o (p ∷ procs) h =
    data_least table datum (layout_of table (is_empty procs) datum p) procs (layout_least table (is_empty procs) datum p)

pub globals_behind : (table : List TypeDef) (blocks : Code BlockLine) → is_empty blocks.procs ≡ false → FIXED_BYTES ≤ data_end table blocks
globals_behind table blocks some = by blocks.procs some
  where
    by : (procs : List (CodeProc BlockLine)) → is_empty procs ≡ false → FIXED_BYTES ≤ (last_of no_layout (layouts table FIXED_BYTES procs)).free.datum
    by [] h = absurd (true≢false h)
    by (p ∷ procs) h =
        data_least table FIXED_BYTES (layout_of table (is_empty procs) FIXED_BYTES p) procs (layout_least table (is_empty procs) FIXED_BYTES p)

-- ---- whole words

whole_behind : (static kept : Bool) (n : ℕ) (free : Free) → n % 4 ≡ 0 → free.datum % 4 ≡ 0 → (free_behind static kept n free).datum % 4 ≡ 0
whole_behind true kept n free h g = omega (arith, h, g)
whole_behind false true n free h g = g
whole_behind false false n free h g = g

whole_by : (a : Alias) (before behind : Free) → before.datum % 4 ≡ 0 → behind.datum % 4 ≡ 0 → (free_by a before behind).datum % 4 ≡ 0
whole_by Own before behind h g = g
whole_by a before behind h g = h

whole_all : (table : List TypeDef) (start : Bool) (lines : List Line) (free : Free) (ps : List FlatPlace) → free.datum % 4 ≡ 0
    → (behind_all table start lines free ps).datum % 4 ≡ 0
whole_all table start lines free [] g = g
whole_all table start lines free (p ∷ ps) g =
    whole_all table start lines (behind table start lines free p) ps
    (whole_by (place_alias table start lines p) free
    (free_behind (is_static start p.kind) (place_kept table start lines p) (place_bytes table start lines p) free) g
    (whole_behind (is_static start p.kind) (place_kept table start lines p) (place_bytes table start lines p) free (place_whole table start lines p) g))

whole_last : (table : List TypeDef) (o : Layout) (procs : List (CodeProc BlockLine)) → o.free.datum % 4 ≡ 0 →
    (last_of o (layouts table FIXED_BYTES procs)).free.datum % 4 ≡ 0
whole_last table o [] g = g
whole_last table o (p ∷ procs) g =
    whole_last table (layout_of table (is_empty procs) FIXED_BYTES p) procs
    (subst (λ n. n % 4 ≡ 0) (sym (waiters_datum (behind_all table (is_empty procs) (map block_plain p.lines) (free_at FIXED_BYTES) p.places)
    (all_housed table (is_empty procs) (map block_plain p.lines) (free_at FIXED_BYTES) p.places)))
    (whole_all table (is_empty procs) (map block_plain p.lines) (free_at FIXED_BYTES) p.places refl))

pub globals_whole : (table : List TypeDef) (blocks : Code BlockLine) → data_end table blocks % 4 ≡ 0
globals_whole table blocks = whole_last table no_layout blocks.procs refl
