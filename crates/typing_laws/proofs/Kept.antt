-- What the rules keep from statement to statement of module code: declarations of procedures are of their heads, and each body comes
-- once, behind the globals before it.
use Rattle.std.proofs.Common.{◌≡◌, ℕ, ◌≤◌, Bool, true, false, List, [], ◌∷◌, ◌++◌, length, Some, refl, sym, ap, subst}
use Rattle.std.proofs.Common.{◌∙◌, append_assoc, append-nil, arith}
use Rattle.std.specs.Prelude.{nat_lt, map, slice_get}
use Rattle.std.proofs.lemmas.Bool.{ltb-true}
use Rattle.nim_program.specs.Program.{Declared, Body, Proc}
use Rattle.nim_program.specs.Scopes.{Placed, placed, count_below, one_more}
use Rattle.expr_rules.specs.Env.{Procedure}
use Rattle.decl_rules.specs.State.{Item, State}
use Rattle.typing_laws.proofs.Growing.{Under, under_more}
use Rattle.typing_laws.proofs.Further.{then_further}
use Rattle.typing_laws.proofs.Grows.{Grows}
use Rattle.typing_laws.proofs.Noted.{Noted, Same}
use Rattle.typing_laws.proofs.Text.{behind, EachBody, each_so}
use Rattle.typing_laws.proofs.Served.{Served, EntriesServed}
use Rattle.typing_laws.proofs.Lists.{placed_both}

-- The procedure has a body, which stands behind so many globals at most.
pub record HasBody (procs : List Proc) (globals : List Declared) (place q k : ℕ) : Type 0 where
  pub proc : Proc
  pub there : slice_get procs q ≡ Some proc
  pub body : Body
  pub has : proc.body ≡ Some body
  pub few : count_below body.first (map placed globals) ≤ k
  pub first : body.first ≤ place

-- while a statement is read, whose globals aren't noted in the text yet
pub record Reading (st : State) : Type 0 where
  pub served : EntriesServed st.procs st.env.entries
  pub bodies : EachBody (HasBody st.procs st.globals st.place) 0 st.text
  pub under : Under st.place (map placed st.globals)

-- between statements
pub record Kept (st : State) : Type 0 where
  pub reading : Reading st
  pub globals : behind 0 st.text ≡ length st.globals

-- ---- from state to state

abbrev pub AtLeast : ℕ → List Declared → Type 0
AtLeast n [] = Unit {0}
AtLeast n (d ∷ ds) = (n ≤ d.number) × AtLeast n ds

pub at_least : (n m : ℕ) (ds : List Declared) → n ≤ m → AtLeast m ds → AtLeast n ds
at_least n m [] l h = tt
at_least n m (d ∷ ds) l h = (omega (arith, l, h.0), at_least n m ds l h.1)

both_at_least : (n : ℕ) (xs ys : List Declared) → AtLeast n xs → AtLeast n ys → AtLeast n (xs ++ ys)
both_at_least n [] ys h k = k
both_at_least n (d ∷ xs) ys h k = (h.0, both_at_least n xs ys h.1 k)

-- with further globals
pub record MoreGlobals (st x : State) : Type 0 where
  pub more : List Declared
  pub is : x.globals ≡ st.globals ++ more
  pub later : AtLeast st.place more

-- with more text
pub record MoreText (st x : State) : Type 0 where
  pub more : List Item
  pub is : x.text ≡ st.text ++ more

pub record Later (st x : State) : Type 0 where
  pub globals : MoreGlobals st x
  pub text : MoreText st x
  pub serving : (p : Procedure) → Served st.procs p → Served x.procs p
  pub place : st.place ≤ x.place
  pub facts : Grows st x

pub later_then : {a b c : State} → Later a b → Later b c → Later a c
later_then {a} {b} {c} g h =
    record {
      globals = record {
        more = g.globals.more ++ h.globals.more;
        is = h.globals.is ∙ ap (λ xs. xs ++ h.globals.more) g.globals.is ∙ append_assoc a.globals g.globals.more h.globals.more;
        later = both_at_least a.place g.globals.more h.globals.more g.globals.later
            (at_least a.place b.place h.globals.more g.place h.globals.later);
      };
      text = record {
        more = g.text.more ++ h.text.more;
        is = h.text.is ∙ ap (λ xs. xs ++ h.text.more) g.text.is ∙ append_assoc a.text g.text.more h.text.more;
      };
      serving = λ p s. h.serving p (g.serving p s);
      place = omega (arith, g.place, h.place);
      facts = then_further g.facts h.facts;
    }

pub later_same : (st x : State) → Same st x → st.place ≤ x.place → Grows st x → Later st x
later_same st x same l g =
    record {
      globals = record { more = []; is = ap (λ (n : Noted). n.globals) same ∙ sym (append-nil st.globals); later = tt };
      text = record { more = []; is = ap (λ (n : Noted). n.text) same ∙ sym (append-nil st.text) };
      serving = λ p s. subst (λ procs. Served procs p) (sym (ap (λ (n : Noted). n.procs) same)) s;
      place = l;
      facts = g;
    }

-- ---- bodies stay where they are

-- places from there on aren't counted
pub none_more : (n : ℕ) (ps : List Placed) (d : Declared) → n ≤ d.number → count_below n (ps ++ placed d ∷ []) ≡ count_below n ps
none_more n [] d l = ap (λ b. one_more b 0) (not_less (nat_lt d.number n) refl)
  where
    not_less : (b : Bool) → nat_lt d.number n ≡ b → b ≡ false
    not_less true e = absurd (omega (arith, l, ltb-true d.number n e))
    not_less false e = refl
none_more n (p ∷ ps) d l = ap (one_more (nat_lt p.number n)) (none_more n ps d l)

module _ (procs : List Proc) (globals : List Declared) (place later : ℕ) (l : place ≤ later) where
  pub body_stays : (q k : ℕ) → HasBody procs globals place q k → HasBody procs globals later q k
  body_stays q k h =
      record { proc = h.proc; there = h.there; body = h.body; has = h.has; few = h.few; first = omega (arith, l, h.first) }

  -- with one more global
  pub body_with_global : (d : Declared) → d.number ≡ place → (q k : ℕ) → HasBody procs globals place q k
      → HasBody procs (globals ++ d ∷ []) later q k
  body_with_global d e q k h =
      record {
        proc = h.proc;
        there = h.there;
        body = h.body;
        has = h.has;
        few = subst (λ ps. count_below h.body.first ps ≤ k) (sym (placed_both globals (d ∷ [])))
            (subst (λ n. n ≤ k) (sym (none_more h.body.first (map placed globals) d (omega (arith, e, h.first)))) h.few);
        first = omega (arith, l, h.first);
      }

-- what is noted of the same places and more
pub same_reading : (st x : State) → Same st x → st.place ≤ x.place → EntriesServed st.procs x.env.entries → Reading st → Reading x
same_reading st x same l served r =
    let procs = ap (λ (n : Noted). n.procs) same in
    record {
      served = subst (λ ps. EntriesServed ps x.env.entries) (sym procs) served;
      bodies = subst (λ (n : Noted). EachBody (HasBody n.procs n.globals x.place) 0 n.text) (sym same)
          (each_so (HasBody st.procs st.globals st.place) (HasBody st.procs st.globals x.place) 0 st.text
          (body_stays st.procs st.globals st.place x.place l) r.bodies);
      under = subst (λ (n : Noted). Under x.place (map placed n.globals)) (sym same) (under_more st.place x.place (map placed st.globals) l r.under);
    }
