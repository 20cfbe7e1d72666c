-- Homes for one procedure after another.
use Rattle.std.proofs.Common.{◌≡◌, ℕ, ◌+◌, List, [], ◌∷◌, ◌++◌, drop, sym, subst, append_assoc, append-nil}
use Rattle.word_code.specs.declared.word.WordProc.{WordProc}
use Rattle.reg_scan.specs.Homes.{IsHomes}
use Rattle.reg_scan.specs.declared.homes.Homes.{Homes}
use Rattle.rv32_codegen.specs.Lowering.{AllHomes}

-- with homes for the procedures that are left, they are homes for all
abbrev pub IsFront : List WordProc → (done : ℕ) → List Homes → Type 0
IsFront procs done all = (rest : List Homes) → AllHomes (drop done procs) rest → AllHomes procs (all ++ rest)

pub front_more : (procs : List WordProc) (done : ℕ) (all : List Homes) (p : WordProc) (homes : Homes) → drop done procs ≡ p ∷ drop (done + 1) procs →
    IsHomes p homes → IsFront procs done all → IsFront procs (done + 1) (all ++ homes ∷ [])
front_more procs done all p homes e is front = λ rest more.
    subst (AllHomes procs) (sym (append_assoc all (homes ∷ []) rest)) (front (homes ∷ rest) (subst (λ l. AllHomes l (homes ∷ rest)) (sym e) (is, more)))

pub front_whole : (procs : List WordProc) (done : ℕ) (all : List Homes) → drop done procs ≡ [] → IsFront procs done all → AllHomes procs all
front_whole procs done all e front =
    subst (AllHomes procs) (append-nil all) (front [] (subst (λ l. AllHomes l []) (sym e) tt))
