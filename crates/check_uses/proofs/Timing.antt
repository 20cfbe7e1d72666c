-- Procedures whose bodies come in time.
use Rattle.std.proofs.Common.{◌≡◌, ℕ, ◌+◌, List, [], ◌∷◌, sym, ap, subst, ◌∙◌}
use Rattle.std.proofs.Common.{add-one, drop, Some}
use Rattle.std.specs.Prelude.{true, false, not, ◌||◌, ◌&&◌, nat_eq, slice_get}
use Rattle.nim_program.specs.declared.program.Proc.{Proc as RustProc}
use Rattle.nim_program.specs.declared.stmt.Stmt.{Stmt as RustStmt}
use Rattle.nim_program.specs.Program.{Stmts}
use Rattle.decl_rules.specs.State.{Item, completes, code}
use Rattle.decl_rules.specs.Whole.{declares_any, comes_in_time}
use Rattle.number_sets.specs.Numbers.{is_among, with_number}
use Rattle.check_uses.specs.InTime.{AreInTime}
use Rattle.check_uses.specs.declared.text.Item.{Item as RustItem}
use Rattle.check_uses.specs.View.{item_of, items_of}
use Rattle.check_uses.proofs.Adding.{drop_at}
use Rattle.number_sets.proofs.ForCallers.{with_is}

pub time_completed : (numbers : List ℕ) (rest : List Item) (q : ℕ) (stmts : Stmts) → AreInTime numbers rest →
    AreInTime (with_number q numbers) (completes q stmts ∷ rest)
time_completed numbers rest q stmts h = λ p. with_is p q numbers ∙ ap (λ b. nat_eq p q || b) (h p)

pub time_over : (rest : List Item) (stmts : Stmts) → declares_any stmts ≡ true → AreInTime [] (code stmts ∷ rest)
time_over rest stmts e = λ p. sym (ap (λ b. not b && comes_in_time p rest) e)

pub time_left : (numbers : List ℕ) (rest : List Item) (stmts : Stmts) → declares_any stmts ≡ false → AreInTime numbers rest →
    AreInTime numbers (code stmts ∷ rest)
time_left numbers rest stmts e h = λ p. h p ∙ sym (ap (λ b. not b && comes_in_time p rest) e)

-- ---- the text from its end

-- one more item
pub items_more : (procs : List RustProc) (start : List RustStmt) (text : List RustItem) (left before : ℕ) (i : RustItem) →
    slice_get text left ≡ Some i → before ≡ left + 1 →
    items_of [] procs start (drop left text) ≡ item_of [] procs start i ∷ items_of [] procs start (drop before text)
items_more procs start text left before i e f =
    ap (items_of [] procs start) (drop_at text left i e) ∙
    ap (λ n. item_of [] procs start i ∷ items_of [] procs start (drop n text)) (sym (f ∙ add-one left))

-- an item that is known
pub time_as : (procs : List RustProc) (start : List RustStmt) (i known : RustItem) (numbers : List ℕ) (rest : List Item) → i ≡ known →
    AreInTime numbers (item_of [] procs start known ∷ rest) → AreInTime numbers (item_of [] procs start i ∷ rest)
time_as procs start i known numbers rest e h = subst (λ k. AreInTime numbers (item_of [] procs start k ∷ rest)) (sym e) h

pub time_same : (old new : List ℕ) (rest : List Item) → new ≡ old → AreInTime old rest → AreInTime new rest
time_same old new rest e h = λ p. ap (is_among p) e ∙ h p
