-- From the answers of parts to the answer of the whole.
use Rattle.std.proofs.Common.{◌≡◌, subst, List, [], map}
use Rattle.std.specs.Prelude.{Result, Ok, Err}
use Rattle.arc_base.specs.declared.place.Stop.{Stop}
use Rattle.arc_base.specs.Refusal.{Refusal, and_then, Answers}
use Rattle.arc_base.proofs.ForCallers.{answers_as, goes, stops}
use Rattle.nim_types.specs.Types.{Ty}
use Rattle.nim_program.specs.declared.program.Proc.{Proc as RustProc}
use Rattle.nim_program.specs.declared.stmt.Stmt.{Stmt as RustStmt}
use Rattle.nim_program.specs.View.{proc_of}
use Rattle.decl_rules.specs.Whole.{text_rule}
use Rattle.check_uses.specs.declared.text.Item.{Item as RustItem}
use Rattle.check_uses.specs.View.{items_of}
use Rattle.check_uses.proofs.Alike.{text_alike}

-- nothing is answered where nothing is refused
abbrev pub Says : Result (Unit {0}) Refusal → Result (Unit {0}) Stop → Type 0
Says said result = Answers {A = Unit {0}} (λ _. tt) said result

pub says_as : (a b : Result (Unit {0}) Refusal) (result : Result (Unit {0}) Stop) → a ≡ b → Says b result → Says a result
says_as a b result e h = answers_as (λ _. tt) a b result e h

-- what is refused first is refused
pub says_stop : (a b : Result (Unit {0}) Refusal) (s : Stop) → Says a (Err s) → Says (and_then a (λ _. b)) (Err s)
says_stop a b s h = stops {S = Unit {0}} {T = Unit {0}} (λ _. tt) (λ _. tt) a (λ _. b) s h

-- behind what isn't refused
pub says_next : (a b : Result (Unit {0}) Refusal) (u : Unit {0}) (result : Result (Unit {0}) Stop) → Says a (Ok u) → Says b result →
    Says (and_then a (λ _. b)) result
says_next a b u result e h = goes (λ _. tt) (λ _. tt) a (λ _. b) u result e h

pub says_text : (known procs : List RustProc) (start : List RustStmt) (text : List RustItem) (result : Result (Unit {0}) Stop) → known ≡ procs →
    Says (text_rule (map (proc_of []) known) (items_of [] known start text)) result →
    (ts : List Ty) → Says (text_rule (map (proc_of ts) procs) (items_of ts procs start text)) result
says_text known procs start text result e h ts =
    let there = subst (λ all. Says (text_rule (map (proc_of []) all) (items_of [] all start text)) result) e h in
    says_as _ _ result (text_alike ts procs start text) there
