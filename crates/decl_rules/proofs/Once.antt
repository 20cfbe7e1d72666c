-- Each statement is typed in one way, or refused in one way; each list of modules is one program, or is refused in one way.
use Rattle.std.proofs.Common.{◌≡◌, sym, ap, inl, inr, ◌∙◌}
use Rattle.std.specs.Prelude.{◌⊎◌, Ok, Err, List, []}
use Rattle.arc_base.specs.declared.place.Place.{Place}
use Rattle.arc_base.specs.declared.place.Code.{Code}
use Rattle.arc_base.specs.Refusal.{Refusal}
use Rattle.nim_tree.specs.Statements.{Statement}
use Rattle.nim_types.specs.Types.{Ty}
use Rattle.nim_program.specs.Program.{Program}
use Rattle.expr_rules.specs.Answers.{Answer}
use Rattle.decl_rules.specs.State.{ResultPlace, Around, State, Stated}
use Rattle.decl_rules.specs.Elaborated.{Module}
use Rattle.decl_rules.specs.Laws.{HasStated, HasRefusal, EachStatement, OneStated, OneRefusal, NotBoth, StatementsComputed, RefusalsComputed, HasProgram}
use Rattle.decl_rules.specs.Laws.{HasNone, EachProgram, OneProgram, OneReason, NeverBoth, ProgramsComputed, ReasonsComputed}
use Rattle.decl_rules.proofs.Means.{m_ok, m_err, means_ok, means_err}
use Rattle.decl_rules.proofs.Values.{Below}
use Rattle.decl_rules.proofs.Statements.{StatedSo, stated_sound}
use Rattle.decl_rules.proofs.Complete.{stated_complete, not_stated_complete}
use Rattle.decl_rules.proofs.Programs.{ProgramSo, program_sound, program_complete, no_program_complete}

-- what an answer gives is one thing
given_in : {A : Type 0} → A → Answer A → A
given_in a (Ok x) = x
given_in a (Err w) = a

code_in : {A : Type 0} → Code → Answer A → Code
code_in c (Ok x) = c
code_in c (Err w) = w.code

place_in : {A : Type 0} → Place → Answer A → Place
place_in p (Ok x) = p
place_in p (Err w) = w.at

one_given : {A : Type 0} {x y : A} {r : Answer A} → r ≡ Ok x → r ≡ Ok y → y ≡ x
unfolding given_in
one_given {A} {x} {y} e f = let same : ◌≡◌ {A = Answer A} (Ok y) (Ok x) = sym f ∙ e in ap (given_in x) same

one_refused : {A : Type 0} {c d : Code} {p q : Place} {r : Answer A} → r ≡ Err (record { code = c; at = p }) → r ≡ Err (record { code = d; at = q })
    → (d ≡ c) × (q ≡ p)
unfolding code_in place_in
one_refused {A} {c} {d} {p} {q} e f =
    let same : ◌≡◌ {A = Answer A} (Err (record { code = d; at = q })) (Err (record { code = c; at = p })) = sym f ∙ e in
    (ap (code_in c) same, ap (place_in p) same)

ok_or_err : {A : Type 0} {x : A} {w : Refusal} → ◌≡◌ {A = Answer A} (Ok x) (Err w) → ⊥
ok_or_err e = cc

never : {A : Type 0} {x : A} {w : Refusal} {r : Answer A} → r ≡ Ok x → r ≡ Err w → ⊥
never {A} {x} {w} e f = let same : ◌≡◌ {A = Answer A} (Ok x) (Err w) = sym e ∙ f in ok_or_err {A = A} same

-- ---- statements

either : {a : Around} {ends : ResultPlace} {st : State} {s : Statement} {answer : Answer Stated} → StatedSo a ends st s answer
    → HasStated a ends st s ⊎ HasRefusal a ends st s
either (m_ok {a = x} h) = inl (x, h)
either (m_err {f = w} h) = inr (w.code, w.at, h)

pub each_statement : Below → EachStatement
each_statement l a ends st s = either (stated_sound l a ends st s)

pub one_stated : Below → OneStated
one_stated l a ends st s x y h g = one_given (stated_complete l h) (stated_complete l g)

pub one_refusal : Below → OneRefusal
one_refusal l a ends st s c d p q h g = one_refused (not_stated_complete l h) (not_stated_complete l g)

pub not_both : Below → NotBoth
not_both l a ends st s x c p h g = never (stated_complete l h) (not_stated_complete l g)

pub statements_computed : Below → StatementsComputed
statements_computed l a ends st s x = (λ h. stated_complete l h, λ r. means_ok (stated_sound l a ends st s) r)

pub refusals_computed : Below → RefusalsComputed
refusals_computed l a ends st s c p = (λ h. not_stated_complete l h, λ r. means_err (stated_sound l a ends st s) r)

-- ---- programs

program_or_none : {types : List Ty} {all : List Module} {answer : Answer Program} → ProgramSo types all answer → HasProgram types all ⊎ HasNone all
program_or_none (m_ok {a = x} h) = inl (x, h)
program_or_none (m_err {f = w} h) = inr (w.code, w.at, h)

pub each_program : Below → EachProgram
each_program l types all = program_or_none (program_sound l types all)

pub one_program : Below → OneProgram
one_program l types all x y h g = one_given (program_complete l h) (program_complete l g)

-- of refusals the list of types says nothing
pub one_reason : Below → OneReason
one_reason l all c d p q h g = one_refused (no_program_complete l [] h) (no_program_complete l [] g)

pub never_both : Below → NeverBoth
never_both l types all x c p h g = never (program_complete l h) (no_program_complete l types g)

pub programs_computed : Below → ProgramsComputed
programs_computed l types all x = (λ h. program_complete l h, λ r. means_ok (program_sound l types all) r)

pub reasons_computed : Below → ReasonsComputed
reasons_computed l types all c p = (λ h. no_program_complete l types h, λ r. means_err (program_sound l types all) r)
