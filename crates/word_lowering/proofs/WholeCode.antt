-- All of word code, from what makes its parts.
use Rattle.std.proofs.Common.{◌≡◌, ◌<◌, ℕ, zero, suc, ◌-◌, List, [], ◌∷◌, ◌++◌, length, Some, None, slice_get}
use Rattle.std.proofs.Common.{refl, sym, ap, ap₂, ◌∙◌, arith}
use Rattle.std.proofs.Common.{map, ◌+◌, ◌==◌, true, false, add-one, length-append}
use Rattle.std.proofs.lemmas.Bool.{true≢false}
use Rattle.std.proofs.lemmas.Option.{none-some, same_Some}
use Rattle.nim_types.specs.declared.types.TypeDef.{TypeDef}
use Rattle.flat_code.specs.declared.block.BlockLine.{BlockLine}
use Rattle.flat_code.specs.declared.code.CodeProc.{CodeProc}
use Rattle.flat_code.specs.declared.code.Code.{Code}
use Rattle.word_code.specs.declared.word.WordProc.{WordProc}
use Rattle.word_code.specs.declared.word.WordCode.{WordCode}
use Rattle.flat_code.specs.Codes.{block_plain}
use Rattle.flat_code.specs.Running.{last_of}
use Rattle.word_lowering.specs.declared.homes.Layout.{Layout}
use Rattle.word_lowering.specs.Emission.{Puts}
use Rattle.word_lowering.specs.Layouts.{layouts}
use Rattle.hook_code.specs.HookCode.{procs_in}
use Rattle.word_lowering.specs.LineCode.{Around, no_layout, proc_number, first_hook}
use Rattle.word_lowering.specs.Texts.{texts_of, texts_in, padded, data_in}
use Rattle.word_lowering.specs.Lowered.{word_proc, with_own, if_runs, word_procs, no_proc, all_layouts, around_start, lowered}
use Rattle.word_lowering.specs.MayLower.{may_lower}
use Rattle.word_lowering.specs.Lowers.{IsLowered}

-- the last item, by its number
last_at : {A : Type 0} (none : A) (xs : List A) (n : ℕ) (x : A) → suc n ≡ length xs → slice_get xs n ≡ Some x → last_of none xs ≡ x
last_at none [] n x e f = absurd (none-some x f)
last_at none (y ∷ []) zero x e f = same_Some y x f
last_at none (y ∷ []) (suc n) x e f = absurd (none-some x f)
last_at none (y ∷ z ∷ xs) zero x e f = absurd (omega (arith, e))
last_at none (y ∷ z ∷ xs) (suc n) x e f = last_at y (z ∷ xs) n x (omega (arith, e)) f

pub last_is : {A : Type 0} (none : A) (xs : List A) (x : A) → slice_get xs (length xs - 1) ≡ Some x → last_of none xs ≡ x
last_is none [] x f = absurd (none-some x f)
last_is none (y ∷ xs) x f = last_at none (y ∷ xs) (length (y ∷ xs) - 1) x (omega arith) f

-- where there are items there is a last one
item_there : {A : Type 0} (xs : List A) (n : ℕ) → n < length xs → None ≡ slice_get xs n → ⊥
item_there [] n l e = omega (arith, l)
item_there (x ∷ xs) zero l e = none-some x e
item_there (x ∷ xs) (suc n) l e = item_there xs n (omega (arith, l)) e

pub last_there : {A : Type 0} (xs : List A) → 0 < length xs → None ≡ slice_get xs (length xs - 1) → ⊥
last_there xs l e = item_there xs (length xs - 1) (omega (arith, l)) e

-- each procedure has a layout
pub layouts_length : (table : List TypeDef) (datum : ℕ) (ps : List (CodeProc BlockLine)) → length (layouts table datum ps) ≡ length ps
layouts_length table datum [] = refl
layouts_length table datum (p ∷ ps) = ap suc (layouts_length table datum ps)

-- the procedures as they are put together
pub procs_are : (x : Around) (start : CodeProc BlockLine) (procs : List (CodeProc BlockLine)) (p : WordProc) (first second : List WordProc)
    → p ≡ word_proc x 0 start → first ≡ [] ++ p ∷ [] → second ≡ first ++ word_procs x 0 x.layouts procs
    → second ≡ word_proc x 0 start ∷ word_procs x 0 x.layouts procs
procs_are x start procs p first second e f h =
    h ∙ ap (λ l. l ++ word_procs x 0 x.layouts procs) f ∙ ap (λ q. q ∷ word_procs x 0 x.layouts procs) e

-- one procedure more
pub next_proc : (x y : Around) (index next behind text : ℕ) (owns more : List Layout) (own : Layout)
    (left rest : List (CodeProc BlockLine)) (p : CodeProc BlockLine)
    (old new all : List WordProc) → left ≡ p ∷ rest → owns ≡ own ∷ more → (length rest == 0) ≡ false
    → text ≡ length (texts_of (map block_plain p.lines)) → y ≡ with_own x own (behind - text) → next ≡ index + 1
    → Puts old new (if_runs y.own.runs (word_proc y (proc_number index) p))
    → old ++ word_procs x index owns left ≡ all → behind ≡ length (texts_in left)
    → (new ++ word_procs x next more rest ≡ all) × (behind - text ≡ length (texts_in rest))
next_proc x y index next behind text owns more own left [] p old new all a b some t around i puts h g = absurd (true≢false some)
next_proc x y index next behind text owns more own left (q ∷ ps) p old new all a b some t around i puts h g =
    let rest : List (CodeProc BlockLine) = q ∷ ps in
    let behind_all = g ∙ ap (λ l. length (texts_in l)) a in
    let long = length-append (texts_in rest) (texts_of (map block_plain p.lines)) in
    let e : behind - text ≡ length (texts_in rest) = omega (arith, behind_all, long, t) in
    let f : y ≡ with_own x own (length (texts_in rest)) = around ∙ ap (λ n. with_own x own n) e in
    let later : List WordProc = word_procs x (suc index) more rest in (
      ap (λ n. new ++ word_procs x n more rest) (i ∙ add-one index)
          ∙ puts later
          ∙ ap (λ z. old ++ if_runs z.own.runs (word_proc z (proc_number index) p) later) f
          ∙ ap₂ (λ (os : List Layout) (ls : List (CodeProc BlockLine)). old ++ word_procs x index os ls) (sym b) (sym a)
          ∙ h,
      e,
    )

module _ (table : List TypeDef) (blocks : Code BlockLine) where
  abbrev made : Layout → CodeProc BlockLine → Around → WordCode
  made own start x = record {
    procs = (word_proc x 0 start ∷ word_procs x 0 x.layouts blocks.procs) ++ procs_in table (first_hook blocks.procs);
    statics = padded (data_in table own.free.datum blocks.procs);
  }

  abbrev made_of : List Layout → Layout → CodeProc BlockLine → WordCode
  made_of all own start = made own start (around_start table blocks.procs all own)

  abbrev last_start : CodeProc BlockLine
  last_start = last_of no_proc blocks.procs

  abbrev made_by : List Layout → WordCode
  made_by all = made_of all (last_of no_layout all) last_start

  abbrev pub both : List WordProc → List ℕ → WordCode
  both procs statics = record { procs = procs; statics = statics }

  pub whole : (all : List Layout) (own : Layout) (start : CodeProc BlockLine) (x : Around) (procs : List WordProc) (statics : List ℕ)
      → all ≡ all_layouts table blocks.procs → last_of no_layout all ≡ own → last_start ≡ start → x ≡ around_start table blocks.procs all own
      → procs ≡ (word_proc x 0 start ∷ word_procs x 0 x.layouts blocks.procs) ++ procs_in table (first_hook blocks.procs)
      → statics ≡ padded (data_in table own.free.datum blocks.procs)
      → ◌≡◌ {A = WordCode} (record { procs = procs; statics = statics }) (lowered table blocks)
  whole all own start x procs statics a b c d e f =
      ap₂ both e f
      ∙ ap (λ y. made own start y) d
      ∙ ap (λ s. made_of all own s) (sym c)
      ∙ ap (λ o. made_of all o last_start) (sym b)
      ∙ ap made_by a

  -- from the slices that the code has
  pub whole_by : (slice : List (CodeProc BlockLine)) (slices : List Layout) (own : Layout) (start : CodeProc BlockLine) (x : Around)
      (procs : List WordProc) (statics : List ℕ)
      → slice ≡ blocks.procs → slices ≡ all_layouts table blocks.procs
      → slice_get slices (length slices - 1) ≡ Some own → slice_get slice (length slice - 1) ≡ Some start
      → x ≡ around_start table slice slices own → procs ≡ (word_proc x 0 start ∷ word_procs x 0 x.layouts slice) ++ procs_in table (first_hook slice)
      → statics ≡ padded (data_in table own.free.datum slice)
      → may_lower table blocks ≡ true
      → IsLowered table blocks (both procs statics)
  whole_by slice slices own start x procs statics s there o f around h d may =
      let is : ◌≡◌ {A = WordCode} (both procs statics) (lowered table blocks) =
      whole slices own start x procs statics there (last_is no_layout slices own o)
      (ap (λ ps. last_of no_proc ps) (sym s) ∙ last_is no_proc slice start f) (around ∙ ap (λ ps. around_start table ps slices own) s)
      (h ∙ ap (λ ps. (word_proc x 0 start ∷ word_procs x 0 x.layouts ps) ++ procs_in table (first_hook ps)) s)
      (d ∙ ap (λ ps. padded (data_in table own.free.datum ps)) s) in
      record { is = is; may = may }
