-- What is known of the states of typing: bodies that stand in the text, and what is in scope.
use Rattle.std.proofs.Common.{◌≡◌, ◌<◌, ◌≤◌, ℕ, suc, zero, ◌+◌, length, Bool, true, false, List, [], ◌∷◌, ◌++◌, refl, sym, ap, subst, ◌∙◌, arith, append_assoc}
use Rattle.std.proofs.Common.{append-nil}
use Rattle.std.proofs.Common.{Option, Some, None}
use Rattle.std.proofs.Common.{◌⊎◌, inl, inr}
use Rattle.std.specs.Prelude.{slice_set, if◌then◌else◌}
use Rattle.arc_base.specs.declared.place.Place.{Place}
use Rattle.nim_tree.specs.declared.name.Name.{Name}
use Rattle.nim_tree.specs.Types.{Written}
use Rattle.nim_tree.specs.Statements.{Head}
use Rattle.nim_types.specs.Types.{Ty}
use Rattle.nim_program.specs.Program.{Stmts, Param, Body, Proc}
use Rattle.expr_rules.specs.Env.{Entry}
use Rattle.decl_rules.specs.State.{ResultPlace, State, entered, left, Step, does, declares, defers, Stated}
use Rattle.decl_rules.specs.State.{Blocked, block_of, noting}
use Rattle.decl_rules.specs.State.{Item, announces, completes, code}
use Rattle.decl_rules.specs.Values.{Value}
use Rattle.decl_rules.specs.Heads.{Given, Headed, parameter_entries, with_parameters}
use Rattle.decl_rules.specs.Bodies.{announced, before_body, behind_body, behind_head, loop_variable, params_from, proc_of, procedure_entry, result_of}
use Rattle.decl_rules.specs.Bodies.{result_at, result_entries, results, with_procedure, with_result}
use Rattle.decl_rules.specs.Stated.{for_state}
use Rattle.lending_laws.specs.Writing.{also, lent_params}
use Rattle.lending_laws.specs.Apart.{BlockLends, IfBody, InProcs}
use Rattle.lending_laws.proofs.Sure.{never}
use Rattle.lending_laws.proofs.Scopes.{Bounded, next_unkept, bounded_on, bounded_also, EntriesSpared, EntriesBelow, ArePlain, spared_both, below_both}
use Rattle.lending_laws.proofs.Scopes.{plain_spared, plain_below, below_on, spared_by_all, spared_also, params_bounded}
use Rattle.lending_laws.proofs.Scopes.{own_params_spared, params_below}

-- ---- bodies that stand in the text

abbrev pub Tells : Stmts → Item → Type 0
Tells stmts (announces proc at) = ⊥
Tells stmts (completes proc others) = others ≡ stmts
Tells stmts (code others) = others ≡ stmts

abbrev pub Told : List Item → Stmts → Type 0
Told [] stmts = ⊥
Told (item ∷ text) stmts = Tells stmts item ⊎ Told text stmts

pub told_on : (xs ys : List Item) (stmts : Stmts) → Told xs stmts → Told (xs ++ ys) stmts
told_on [] ys stmts h = absurd h
told_on (item ∷ xs) ys stmts (inl e) = inl e
told_on (item ∷ xs) ys stmts (inr h) = inr (told_on xs ys stmts h)

pub told_last : (xs : List Item) (item : Item) (stmts : Stmts) → Tells stmts item → Told (xs ++ item ∷ []) stmts
told_last [] item stmts e = inl e
told_last (x ∷ xs) item stmts e = inr (told_last xs item stmts e)

-- what is known of a body with these parameters
abbrev pub BodyTold : List Item → List Param → Stmts → Type 0
BodyTold text params stmts = BlockLends (lent_params params) stmts × Told text stmts

abbrev pub AllTold : List Item → List Proc → Type 0
AllTold text procs = InProcs (BodyTold text) procs

if_on : (xs ys : List Item) (params : List Param) (body : Option Body) → IfBody (BodyTold xs params) body → IfBody (BodyTold (xs ++ ys) params) body
if_on xs ys params None h = tt
if_on xs ys params (Some body) h = (h.0, told_on xs ys body.stmts h.1)

all_on : (xs ys : List Item) (procs : List Proc) → AllTold xs procs → AllTold (xs ++ ys) procs
all_on xs ys [] h = tt
all_on xs ys (p ∷ procs) h = (if_on xs ys p.params p.body h.0, all_on xs ys procs h.1)

all_with : (text : List Item) (procs : List Proc) (p : Proc) → AllTold text procs → IfBody (BodyTold text p.params) p.body → AllTold text (procs ++ p ∷ [])
all_with text [] p h k = (k, tt)
all_with text (q ∷ procs) p h k = (h.0, all_with text procs p h.1 k)

all_set : (text : List Item) (procs : List Proc) (i : ℕ) (p : Proc) → AllTold text procs → IfBody (BodyTold text p.params) p.body
    → AllTold text (slice_set procs i p)
all_set text [] i p h k = tt
all_set text (q ∷ procs) zero p h k = (k, h.1)
all_set text (q ∷ procs) (suc i) p h k = (h.0, all_set text procs i p h.1 k)

-- ---- what statements leave

-- the text goes on, and so do the numbers of places
pub record On (st x : State) : Type 0 where
  pub more : List Item
  pub is : x.text ≡ st.text ++ more
  pub told : AllTold st.text st.procs → AllTold x.text x.procs
  pub grows : st.place ≤ x.place

pub on_then : {a b c : State} → On a b → On b c → On a c
on_then {a} {b} {c} h k = record {
  more = h.more ++ k.more;
  is = k.is ∙ ap (λ t. t ++ k.more) h.is ∙ append_assoc a.text h.more k.more;
  told = λ t. k.told (h.told t);
  grows = let p = h.grows in let q = k.grows in omega (arith, p, q);
}

-- where procedures and text stay
pub stays : (st x : State) → x.text ≡ st.text → x.procs ≡ st.procs → st.place ≤ x.place → On st x
stays st x e f le = record {
  more = [];
  is = e ∙ sym (append-nil st.text);
  told = λ h. subst (λ t. AllTold t x.procs) (sym e) (subst (AllTold st.text) (sym f) h);
  grows = le;
}

-- where places do as well
pub same_on : (st x : State) → x.text ≡ st.text → x.procs ≡ st.procs → x.place ≡ st.place → On st x
same_on st x e f g = stays st x e f (omega (arith, g))

pub noting_on : (outermost : Bool) (one : Stated) → On one.state (noting outermost one)
noting_on true one = record {
  more = code (block_of one.steps) ∷ [];
  is = refl;
  told = λ h. all_on one.state.text (code (block_of one.steps) ∷ []) one.state.procs h;
  grows = omega arith;
}
noting_on false one = same_on one.state one.state refl refl refl

-- ---- what is in scope

pub record Keeps (kept : ℕ → Bool) (st : State) : Type 0 where
  pub spared : EntriesSpared kept st.env.entries
  pub below : EntriesBelow st.place st.env.entries
  pub bounded : Bounded kept st.place

-- the same names, and no fewer places
pub keeps_on : (kept : ℕ → Bool) (st x : State) → Keeps kept st → x.env.entries ≡ st.env.entries → st.place ≤ x.place → Keeps kept x
keeps_on kept st x k e le = record {
  spared = subst (EntriesSpared kept) (sym e) k.spared;
  below = subst (EntriesBelow x.place) (sym e) (below_on st.place x.place st.env.entries le k.below);
  bounded = bounded_on kept st.place x.place k.bounded le;
}

-- further names
pub keeps_more : (kept : ℕ → Bool) (st x : State) (more : List Entry) → Keeps kept st → x.env.entries ≡ st.env.entries ++ more → EntriesSpared kept more
    → EntriesBelow x.place more → st.place ≤ x.place → Keeps kept x
keeps_more kept st x more k e s b le = record {
  spared = subst (EntriesSpared kept) (sym e) (spared_both kept st.env.entries more k.spared s);
  below = subst (EntriesBelow x.place) (sym e)
      (below_both x.place st.env.entries more (below_on st.place x.place st.env.entries le k.below) b);
  bounded = bounded_on kept st.place x.place k.bounded le;
}

pub keeps_plain : (kept : ℕ → Bool) (st x : State) (more : List Entry) → Keeps kept st → x.env.entries ≡ st.env.entries ++ more → ArePlain more
    → st.place ≤ x.place → Keeps kept x
keeps_plain kept st x more k e plain le =
    keeps_more kept st x more k e (plain_spared kept more plain) (plain_below x.place more plain) le

-- the variable of a `for`
pub keeps_loop : (kept : ℕ → Bool) (st : State) (v : Value) (x : Name) (ty : Ty) → Keeps kept st
    → Keeps (also (loop_variable st x ty) kept) (for_state st v x ty)
keeps_loop kept st v x ty k =
    let place = loop_variable st x ty in record {
      spared = spared_both (also place kept) st.env.entries _ (spared_also place kept st.env.entries k.below k.spared) ((λ w. never w), tt);
      below = below_both (suc st.place) st.env.entries _ (below_on st.place (suc st.place) st.env.entries (omega arith) k.below) (omega arith, tt);
      bounded = bounded_also place kept k.bounded;
    }

pub loop_on : (st : State) (v : Value) (x : Name) (ty : Ty) (y : State) → On (for_state st v x ty) y → On st (left st y)
loop_on st v x ty y on =
    on_then (on_then (stays st (for_state st v x ty) refl refl (omega arith)) on) (same_on y (left st y) refl refl refl)

pub noting_keeps : (kept : ℕ → Bool) (outermost : Bool) (one : Stated) → Keeps kept one.state → Keeps kept (noting outermost one)
noting_keeps kept true one keeps = keeps_on kept one.state (noting true one) keeps refl (omega arith)
noting_keeps kept false one keeps = keeps

-- ---- statements

pub record Done (kept : ℕ → Bool) (st : State) (x : Stated) : Type 0 where
  pub part : BlockLends kept (block_of x.steps)
  pub on : On st x.state
  pub keeps : Keeps kept x.state

pub record Closed (kept : ℕ → Bool) (st : State) (b : Blocked) : Type 0 where
  pub part : BlockLends kept b.stmts
  pub on : On st b.state
  pub same : b.state.env.entries ≡ st.env.entries

pub both_part : (kept : ℕ → Bool) (xs ys : List Step) → BlockLends kept (block_of xs) → BlockLends kept (block_of ys) → BlockLends kept (block_of (xs ++ ys))
both_part kept [] ys h k = k
both_part kept (does s ∷ xs) ys h k = (h.0, both_part kept xs ys h.1 k)
both_part kept (declares n place cursor value ∷ xs) ys h k = (h.0, both_part kept xs ys h.1 k)
both_part kept (defers n last ∷ xs) ys h k = (h.0, both_part kept xs ys h.1 k)

-- ---- procedures

pub head_on : (st : State) (at : Place) (h : Head) (k : Headed) → On st (behind_head st at h k)
head_on st at h k = by_new k.is_new
  where
    by_new : (b : Bool) → On st (if b then with_procedure st at h k else st)
    by_new true = record {
      more = announced at k;
      is = refl;
      told = λ t. all_with (st.text ++ announced at k) st.procs (proc_of at h k st.place None) (all_on st.text (announced at k) st.procs t) tt;
      grows = omega arith;
    }
    by_new false = same_on st st refl refl refl

pub head_keeps : (kept : ℕ → Bool) (st : State) (at : Place) (h : Head) (k : Headed) → Keeps kept st → Keeps kept (behind_head st at h k)
head_keeps kept st at h k keeps = by_new k.is_new
  where
    by_new : (b : Bool) → Keeps kept (if b then with_procedure st at h k else st)
    by_new true = keeps_plain kept st (with_procedure st at h k) (procedure_entry h k ∷ []) keeps refl (tt, tt) (omega arith)
    by_new false = keeps

abbrev pub own_kept : State → Headed → ℕ → Bool
own_kept st k = lent_params (params_from st.place k.signature.params)

pub body_on : (has_body : Bool) (st : State) (at : Place) (h : Head) (k : Headed) (s : Stated) → BlockLends (own_kept st k) (block_of s.steps)
    → On st s.state → On st (behind_body has_body st at h k s)
body_on true st at h k s part on = record {
  more = on.more ++ completes k.number (block_of s.steps) ∷ [];
  is = ap (λ t. t ++ completes k.number (block_of s.steps) ∷ []) on.is ∙ append_assoc st.text on.more (completes k.number (block_of s.steps) ∷ []);
  told = λ t.
      let item = completes k.number (block_of s.steps) in
      all_set (s.state.text ++ item ∷ []) s.state.procs k.number _ (all_on s.state.text (item ∷ []) s.state.procs (on.told t))
      (part, told_last s.state.text item (block_of s.steps) refl);
  grows = on.grows;
}
body_on false st at h k s part on = by_borrowed k.borrowed
  where
    by_borrowed : (b : Bool) → On st (if b then record st { place = st.place + length k.signature.params } else st)
    by_borrowed true = stays st (record st { place = st.place + length k.signature.params }) refl refl (omega arith)
    by_borrowed false = same_on st st refl refl refl

pub body_same : (has_body : Bool) (st : State) (at : Place) (h : Head) (k : Headed) (s : Stated) →
    (behind_body has_body st at h k s).env.entries ≡ st.env.entries
body_same true st at h k s = refl
body_same false st at h k s = by_borrowed k.borrowed
  where
    by_borrowed : (b : Bool) → (if b then record st { place = st.place + length k.signature.params } else st).env.entries ≡ st.env.entries
    by_borrowed true = refl
    by_borrowed false = refl

-- in the body its parameters and its result are known
abbrev AtEnd : ℕ → ResultPlace → Type 0
AtEnd n None = Unit {0}
AtEnd n (Some d) = d.number ≡ n

result_next : (n : ℕ) (t : Option Written) (ty : Option Ty) → AtEnd n (result_at n t ty)
result_next n (Some t) (Some ty) = refl
result_next n (Some t) None = tt
result_next n None ty = tt

module _ (st : State) (given : List Given) (known : EntriesBelow st.place st.env.entries) where
  abbrev own : ℕ → Bool
  own = lent_params (params_from st.place given)

  abbrev in_scope : List Entry
  in_scope = st.env.entries ++ parameter_entries st.place given

  own_bounded : Bounded own (st.place + length given)
  own_bounded n e = (params_bounded st.place given n e).1

  before : (n : ℕ) → n < st.place → own n ≡ false
  before n lt = by_test (own n) refl
    where
      by_test : (b : Bool) → own n ≡ b → b ≡ false
      by_test false e = refl
      by_test true e = let p = (params_bounded st.place given n e).0 in absurd (omega (arith, p, lt))

  names_spared : EntriesSpared own in_scope
  names_spared =
      spared_both own st.env.entries (parameter_entries st.place given) (spared_by_all own st.place st.env.entries before known)
      (own_params_spared st.place given)

  names_below : (bound : ℕ) → st.place + length given ≤ bound → EntriesBelow bound in_scope
  names_below bound le =
      below_both bound st.env.entries (parameter_entries st.place given) (below_on st.place bound st.env.entries (omega (arith, le)) known)
      (params_below st.place given bound le)

  result_spared : (r : ResultPlace) → AtEnd (st.place + length given) r → EntriesSpared own (result_entries r)
  result_spared None e = tt
  result_spared (Some d) e = (λ w. next_unkept own (st.place + length given) d.number own_bounded (omega (arith, e)), tt)

  result_below : (r : ResultPlace) → AtEnd (st.place + length given) r → EntriesBelow (st.place + length given + results r) (result_entries r)
  result_below None e = tt
  result_below (Some d) e = (omega (arith, e), tt)

  result_keeps : (r : ResultPlace) → AtEnd (st.place + length given) r → Keeps own (entered (with_result (with_parameters (entered st) given) r))
  result_keeps r e =
      let end = st.place + length given + results r in record {
        spared = spared_both own in_scope (result_entries r) names_spared (result_spared r e);
        below = below_both end in_scope (result_entries r) (names_below end (omega arith)) (result_below r e);
        bounded = bounded_on own (st.place + length given) end own_bounded (omega arith);
      }

pub body_keeps : (st : State) (h : Head) (k : Headed) → EntriesBelow st.place st.env.entries → Keeps (own_kept st k) (before_body st h k)
body_keeps st h k known =
    result_keeps st k.signature.params known (result_of st h k) (result_next (st.place + length k.signature.params) h.gives k.signature.gives)
