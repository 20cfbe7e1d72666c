-- The layouts of procedures, one after another.
use Rattle.std.proofs.Common.{◌≡◌, ℕ, ◌==◌, Bool, List, [], ◌∷◌, ◌++◌, length, refl, sym, ap, ◌∙◌, arith, append_assoc}
use Rattle.std.proofs.lemmas.Bool.{ne_eqb}
use Rattle.nim_types.specs.declared.types.TypeDef.{TypeDef}
use Rattle.flat_code.specs.declared.block.BlockLine.{BlockLine}
use Rattle.flat_code.specs.declared.code.CodeProc.{CodeProc}
use Rattle.word_lowering.specs.declared.homes.Layout.{Layout}
use Rattle.word_lowering.specs.Layouts.{is_empty, layout_of, layouts}

pub empty_is : {A : Type 0} (xs : List A) → (length xs == 0) ≡ is_empty xs
empty_is [] = refl
empty_is (x ∷ xs) = ne_eqb (length (x ∷ xs)) 0 (λ s. omega (arith, s))

pub next_layout : (table : List TypeDef) (datum : ℕ) (procs left rest : List (CodeProc BlockLine)) (p : CodeProc BlockLine)
    (old new : List Layout) (own : Layout)
    (last : Bool) → left ≡ p ∷ rest → last ≡ (length rest == 0) → own ≡ layout_of table last datum p → new ≡ old ++ own ∷ []
    → old ++ layouts table datum left ≡ layouts table datum procs → new ++ layouts table datum rest ≡ layouts table datum procs
next_layout table datum procs left rest p old new own last e l o n before =
    ap (λ (ls : List Layout). ls ++ layouts table datum rest) n
    ∙ append_assoc old (own ∷ []) (layouts table datum rest)
    ∙ ap (λ (y : Layout). old ++ y ∷ layouts table datum rest) (o ∙ ap (λ (b : Bool). layout_of table b datum p) (l ∙ empty_is rest))
    ∙ ap (λ (ls : List (CodeProc BlockLine)). old ++ layouts table datum ls) (sym e)
    ∙ before
