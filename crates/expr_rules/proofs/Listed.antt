-- The numbers of the nodes of an expression, before others.
use Rattle.std.proofs.Common.{◌≡◌, ℕ, Bool, true, false, List, ◌∷◌, ◌++◌, refl, sym, ap, ◌∙◌, append_assoc}
use Rattle.nim_program.specs.Program as P
use Rattle.nim_program.specs.Program.{Expr, Path, Args}
use Rattle.nim_program.proofs.ForCallers.{fresh_same}
use Rattle.nim_program.specs.Folds.{lists, node_numbers, nodes, total_at, totals}
use Rattle.expr_rules.specs.Numbers.{Run}

abbrev mutual
  pub numbers : Expr → List ℕ → List ℕ
  numbers (P.Apply k ty act operands) rest = k.number ∷ args_numbers operands rest
  numbers (P.Read path) rest = path_numbers path rest
  numbers (P.Early k ty short a b) rest = k.number ∷ numbers a (numbers b rest)
  numbers (P.Choose k ty chooser parts) rest = k.number ∷ args_numbers parts rest

  pub path_numbers : Path → List ℕ → List ℕ
  path_numbers (P.Variable k ty place global) rest = k.number ∷ rest
  path_numbers (P.Fresh a) rest = numbers a rest
  path_numbers (P.Field k ty base field) rest = k.number ∷ path_numbers base rest
  path_numbers (P.Element k ty base i constant) rest = k.number ∷ path_numbers base (numbers i rest)
  path_numbers (P.Deref ty base) rest = path_numbers base rest

  pub args_numbers : Args → List ℕ → List ℕ
  args_numbers P.NoArg rest = rest
  args_numbers (P.ByValue a more) rest = numbers a (args_numbers more rest)
  args_numbers (P.ByPath path more) rest = path_numbers path (args_numbers more rest)

mutual
  pub numbers_are : (e : Expr) (rest : List ℕ) → numbers e rest ≡ nodes e ++ rest
  numbers_are (P.Apply k ty act operands) rest = ap (λ ns. k.number ∷ ns) (args_are operands rest)
  numbers_are (P.Read path) rest = path_are true path rest
  numbers_are (P.Early k ty short a b) rest =
      ap (λ ns. k.number ∷ ns) (numbers_are a (numbers b rest) ∙ ap (λ ns. nodes a ++ ns) (numbers_are b rest) ∙ sym (append_assoc (nodes a) (nodes b) rest))
  numbers_are (P.Choose k ty chooser parts) rest = ap (λ ns. k.number ∷ ns) (args_are parts rest)

  path_are : (read : Bool) (path : Path) (rest : List ℕ) → path_numbers path rest ≡ total_at lists node_numbers read path ++ rest
  path_are read (P.Variable k ty place global) rest = refl
  path_are read (P.Fresh a) rest =
      numbers_are a rest
      ∙ ap (λ ns. ns ++ rest) (sym (fresh_same lists node_numbers (λ ty read x. refl) (λ node ty read literal. refl) read a))
  path_are read (P.Field k ty base field) rest = ap (λ ns. k.number ∷ ns) (path_are false base rest)
  path_are read (P.Element k ty base i constant) rest =
      ap (λ ns. k.number ∷ ns) (path_are false base (numbers i rest) ∙ ap (λ ns. total_at lists node_numbers false base ++ ns) (numbers_are i rest)
      ∙ sym (append_assoc (total_at lists node_numbers false base) (nodes i) rest))
  path_are read (P.Deref ty base) rest = path_are false base rest

  args_are : (args : Args) (rest : List ℕ) → args_numbers args rest ≡ totals lists node_numbers args ++ rest
  args_are P.NoArg rest = refl
  args_are (P.ByValue a more) rest =
      numbers_are a (args_numbers more rest) ∙ ap (λ ns. nodes a ++ ns) (args_are more rest)
      ∙ sym (append_assoc (nodes a) (totals lists node_numbers more) rest)
  args_are (P.ByPath path more) rest =
      path_are false path (args_numbers more rest) ∙ ap (λ ns. total_at lists node_numbers false path ++ ns) (args_are more rest)
      ∙ sym (append_assoc (total_at lists node_numbers false path) (totals lists node_numbers more) rest)

-- what f puts before others runs from n to m
abbrev pub Leads : ℕ → ℕ → (List ℕ → List ℕ) → Type 0
Leads n m f = (rest : List ℕ) (k : ℕ) → Run m rest k → Run n (f rest) k
