-- Typed statements one after another.
use Rattle.std.proofs.Common.{◌≡◌, ◌≤◌, Bool, true, false, List, [], ◌∷◌, ◌++◌, refl, sym, ap, subst, arith}
use Rattle.nim_program.specs.Program.{Stmt, Stmts, Empty, Declared}
use Rattle.nim_program.specs.Scopes.{Here, with_place}
use Rattle.nim_program.specs.Typed.{Around, is_empty, is_typed_stmt, is_typed_block}
use Rattle.decl_rules.specs.State.{State, Step, does, declares, defers, step_before, block_of, Stated, stated_as, Blocked, left}
use Rattle.typing_laws.specs.Knows.{KnowsWell}
use Rattle.typing_laws.proofs.Tests.{both, never}
use Rattle.typing_laws.proofs.Constants.{Closed, ClosedOne}
use Rattle.typing_laws.proofs.Growing.{Said, Under, under_more, entries_grown}
use Rattle.typing_laws.proofs.Further.{AllSaid}

-- with further places
pub data Grown : Here → Here → Type 0 where
  as_before : {here : Here} → Grown here here
  with_one : {here after : Here} (d : Declared) → Grown (with_place here d) after → Grown here after

pub grown_then : {here mid after : Here} → Grown here mid → Grown mid after → Grown here after
grown_then as_before h = h
grown_then (with_one d g) h = with_one d (grown_then g h)

pub same_facts : {here after : Here} → Grown here after → after.facts ≡ here.facts
same_facts as_before = refl
same_facts (with_one d g) = same_facts g

-- ---- steps before a block

abbrev pub onto : List Step → Stmts → Stmts
onto [] rest = rest
onto (step ∷ steps) rest = step_before step (onto steps rest)

pub onto_none : (steps : List Step) → block_of steps ≡ onto steps Empty
onto_none [] = refl
onto_none (step ∷ steps) = ap (step_before step) (onto_none steps)

pub onto_both : (first rest : List Step) (end : Stmts) → onto (first ++ rest) end ≡ onto first (onto rest end)
onto_both [] rest end = refl
onto_both (step ∷ first) rest end = ap (step_before step) (onto_both first rest end)

abbrev pub is_some : List Step → Bool
is_some [] = false
is_some (step ∷ rest) = true

pub some_statement : (steps : List Step) (end : Stmts) → is_some steps ≡ true → is_empty (onto steps end) ≡ false
some_statement [] end h = never h
some_statement (does s ∷ rest) end h = refl
some_statement (declares node place cursor value ∷ rest) end h = refl
some_statement (defers node last ∷ rest) end h = refl

-- ---- what holds behind statements

-- What has been said of types is what the program says.
abbrev pub InEnd : Here → State → Type 0
InEnd here st = AllSaid st.env.facts here.facts

pub record At (here : Here) (st : State) : Type 0 where
  pub knows : KnowsWell here st.env
  pub under : Under st.place here.places

pub record StepsRight (here : Here) (around : Around) (st : State) (x : Stated) : Type 0 where
  pub after : Here
  pub grown : Grown here after
  pub at : At after x.state
  pub later : st.place ≤ x.state.place
  pub typed : (rest : Stmts) → is_typed_block after around rest ≡ true → is_typed_block here around (onto x.steps rest) ≡ true

pub record BlockRight (here : Here) (around : Around) (st : State) (b : Blocked) : Type 0 where
  pub typed : is_typed_block here around b.stmts ≡ true
  pub at : At here b.state

-- one statement, which declares no place
pub record OneRight (here : Here) (around : Around) (st : State) (x : Stated) : Type 0 where
  pub stmt : Stmt
  pub alone : x.steps ≡ does stmt ∷ []
  pub typed : is_typed_stmt here around stmt ≡ true
  pub at : At here x.state
  pub later : st.place ≤ x.state.place

pub one_does : (here : Here) (around : Around) (st after : State) (s : Stmt) → is_typed_stmt here around s ≡ true → At here after → st.place ≤ after.place
    → OneRight here around st (stated_as (does s ∷ []) after)
one_does here around st after s h at l = record { stmt = s; alone = refl; typed = h; at = at; later = l }

pub one_step : (here : Here) (around : Around) (st : State) (x : Stated) → OneRight here around st x → StepsRight here around st x
one_step here around st x h =
    record {
      after = here;
      grown = as_before;
      at = h.at;
      later = h.later;
      typed = λ rest t. subst (λ steps. is_typed_block here around (onto steps rest) ≡ true) (sym h.alone) (both h.typed t);
    }

pub nothing_done : (here : Here) (around : Around) (st : State) → At here st → StepsRight here around st (stated_as [] st)
nothing_done here around st at = record { after = here; grown = as_before; at = at; later = omega arith; typed = λ rest t. t }

pub both_done : (here : Here) (around : Around) (st : State) (first rest : Stated) (h : StepsRight here around st first)
    → StepsRight h.after around first.state rest → StepsRight here around st (stated_as (first.steps ++ rest.steps) rest.state)
both_done here around st first rest h k =
    record {
      after = k.after;
      grown = grown_then h.grown k.grown;
      at = k.at;
      later = omega (arith, h.later, k.later);
      typed = λ end t. subst (λ b. is_typed_block here around b ≡ true) (sym (onto_both first.steps rest.steps end))
          (h.typed (onto rest.steps end) (k.typed end t));
    }

-- ---- behind a block

pub behind_block : Closed → ClosedOne → (here after : Here) (before behind : State) → At here before → Grown here after → KnowsWell after behind.env
    → Said before.env.facts behind.env.facts → before.place ≤ behind.place → At here (left before behind)
behind_block closed closed_one here after before behind at grown knows grows l =
    record {
      knows = record {
        all = record {
          sound = at.knows.all.sound;
          said = subst (λ f. Said behind.env.facts f) (same_facts grown) knows.all.said;
          entries = at.knows.all.entries;
        };
        own = record {
          sound = knows.own.sound;
          said = λ ty fact e. e;
          entries = entries_grown before.env.facts behind.env.facts grows at.knows.own.sound knows.own.sound
              closed closed_one here before.env.entries at.knows.own.entries;
        };
      };
      under = under_more before.place behind.place here.places l at.under;
    }
