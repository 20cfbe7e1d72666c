-- The lines of each hook fit: each knows what it asks for.
use Rattle.std.proofs.Common.{◌≡◌, ◌⊎◌, inl, inr, ℕ, zero, suc, ◌+◌, ◌<◌, ◌^◌, Bool, true, false, List, [], ◌∷◌, Option, Some, None, refl, sym, ap, subst, ◌∙◌}
use Rattle.std.proofs.Common.{arith, ◌≢◌, ◌≤◌}
use Rattle.std.specs.Prelude.{slice_get, if◌then◌else◌}
use Rattle.std.proofs.lemmas.Bool.{false≢true, cases_eq}
use Rattle.nim_types.specs.declared.types.TypeDef.{TypeDef}
use Rattle.nim_types.specs.declared.types.TypeDef.TheVariants as D
use Rattle.flat_code.specs.declared.line.Line.TheVariants as L
use Rattle.hook_lifting.specs.declared.lifted.Hook.{Hook}
use Rattle.hook_lifting.specs.declared.lifted.Hook.TheVariants.{Copies, Assigns, Sinks, Ends}
use Rattle.hook_lifting.specs.declared.lifted.LiftedLine.{LiftedLine}
use Rattle.hook_lifting.specs.declared.lifted.LiftedLine.TheVariants as O
use Rattle.hook_lifting.specs.Lifted.{has_hooks, is_needed, is_routine, part_lines, turn_lines, lines_of, array_lines, assigning_lines, sinking_lines}
use Rattle.hook_lifting.specs.Lifted.{copying_lines, ending_lines, loop_lines, cut_lines}
use Rattle.hook_lifting.specs.Lifting.{label_of}
use Rattle.flat_code.specs.Running.{from_label, is_name}
use Rattle.hook_code.specs.declared.numbers.TheConstants.{COUNT}
use Rattle.hook_code.specs.Surroundings.{IsHandled, IsDistinct, plain_parts}
use Rattle.hook_code.specs.Promises.{from_own}
use Rattle.hook_code.proofs.Env.{Env, set, Covers, Fits, a_part, a_zero, a_test, a_turn, a_label, a_return, a_hook, a_base, a_load, a_count, a_number}
use Rattle.hook_code.proofs.Env.{an_element, a_member, a_take, a_give_back, a_trade, a_begin, a_push, a_pop, an_exchange, a_copy, a_shorten, a_forget, AllFit}
use Rattle.hook_code.proofs.Env.{none, more, counted, handled}
use Rattle.hook_code.proofs.Known.{none_some, same_some, set_here, set_there}
use Rattle.hook_code.proofs.Follow.{Distinct}
use Rattle.hook_code.proofs.HookRuns.{first_at, first_env}

abbrev last : List LiftedLine
last = O.Plain (L.Return None) ∷ []

-- the numbers of a loop, with such handles
abbrev no_pair : ℕ → Option (Bool × (Bool × ℕ))
no_pair t = None

abbrev no_count : ℕ → Bool
no_count t = false

-- of a loop, beside those that are there all the time
abbrev loop_counts : (always : ℕ → Bool) → ℕ → Bool
loop_counts always = set (set always 5 true) 4 true

abbrev pub copied_pairs : (ty : ℕ) → ℕ → Option (Bool × (Bool × ℕ))
copied_pairs ty = set (set no_pair 7 (Some (true, (false, ty)))) 6 (Some (true, (true, ty)))

abbrev pub ended_pair : (ty : ℕ) → ℕ → Option (Bool × (Bool × ℕ))
ended_pair ty = set no_pair 6 (Some (true, (true, ty)))

-- what is known at the labels of a loop
abbrev pub at_labels_of : (places : ℕ → Option (Bool × ℕ)) → (always : ℕ → Bool) → (has : ℕ → Option (Bool × (Bool × ℕ))) → (name : ℕ) → Env
at_labels_of places always has zero = record { at = places; has = has; counts = always; small = false; begun = None }
at_labels_of places always has (suc name) = record { at = places; has = has; counts = loop_counts always; small = false; begun = None }

abbrev pub at_labels : Hook → (ty : ℕ) → (has : ℕ → Option (Bool × (Bool × ℕ))) → (name : ℕ) → Env
at_labels hook ty has name = at_labels_of (first_at hook ty) no_count has name

first_low : (hook : Hook) (ty j : ℕ) (t : Bool × ℕ) → first_at hook ty j ≡ Some t → j ≤ 1
first_low hook ty zero t is = omega arith
first_low hook ty (suc zero) t is = omega arith
first_low hook ty (suc (suc j)) t is = absurd (none_some is)

-- ---- before a sequence is made shorter: where it stands, and how many elements it keeps

abbrev pub cut_at : (ty : ℕ) → ℕ → Option (Bool × ℕ)
cut_at ty zero = Some (true, ty)
cut_at ty j = None

abbrev pub cut_count : ℕ → Bool
cut_count = set no_count COUNT true

abbrev pub cut_env : (ty : ℕ) → Env
cut_env ty = record { at = cut_at ty; has = no_pair; counts = cut_count; small = false; begun = None }

cut_low : (ty j : ℕ) (t : Bool × ℕ) → cut_at ty j ≡ Some t → j ≤ 1
cut_low ty zero t is = omega arith
cut_low ty (suc j) t is = absurd (none_some is)

pub cut_counted : (t : ℕ) → cut_count t ≡ true → t ≡ COUNT
cut_counted t is = by (cases_eq t COUNT)
  where
    by : (t ≡ COUNT) ⊎ (t ≢ COUNT) → t ≡ COUNT
    by (inl e) = e
    by (inr ne) = absurd (false≢true (sym (set_there no_count COUNT true t ne) ∙ is))

cut_away : (t : ℕ) → cut_count t ≡ true → t ≢ 4
cut_away t is e = let c = cut_counted t is in omega (arith, c, e)

set_true : (held : ℕ → Bool) (u t : ℕ) → held t ≡ true → set held u true t ≡ true
set_true held u t h = by (cases_eq t u)
  where
    by : (t ≡ u) ⊎ (t ≡ u → ⊥) → set held u true t ≡ true
    by (inl e) = subst (λ i. set held u true i ≡ true) (sym e) (set_here held u true)
    by (inr ne) = set_there held u true t ne ∙ h

module _ (table : List TypeDef) (ty : ℕ) (joined : ℕ → Env) (P : Hook → ℕ → Type 0) where
  abbrev F : Env → List LiftedLine → Type 0
  F e lines = AllFit table ty joined P e lines

  abbrev part_type : ℕ → Option ℕ
  part_type i = slice_get (plain_parts (slice_get table ty)) i

  -- both locations are known, and no value is under way
  pub record IsBase (hook : Hook) (e : Env) : Type 0 where
    pub to : e.at 0 ≡ Some (true, ty)
    pub from : e.at 1 ≡ Some (from_own hook, ty)
    pub begun : e.begun ≡ None

  pub last_fits : (hook : Hook) (e : Env) → IsBase hook e → F e last
  last_fits hook e b = more (a_return b.to b.begun) none

  -- ---- parts

  pub parts_fit : (hook : Hook) (ps : List ℕ) (i : ℕ) (e : Env) → IsBase hook e → ((j p : ℕ) → slice_get ps j ≡ Some p → part_type (i + j) ≡ Some p)
      → ((j p : ℕ) → slice_get ps j ≡ Some p → is_needed hook (has_hooks table p) ≡ true → P hook p) → F e (part_lines table hook ps i last)
  parts_fit hook [] i e b typed can = last_fits hook e b
  parts_fit hook (p ∷ ps) i e b typed can =
      by (λ f g. parts_fit hook ps (suc i) f g
      (λ j q is. subst (λ n. part_type n ≡ Some q) (let a : i + suc j ≡ suc i + j = omega arith in a) (typed (suc j) q is)) (λ j q is. can (suc j) q is))
      (is_needed hook (has_hooks table p)) refl
    where
      rest : List LiftedLine
      rest = part_lines table hook ps (suc i) last

      here : part_type i ≡ Some p
      here = subst (λ n. part_type n ≡ Some p) (let a : i + 0 ≡ i = omega arith in a) (typed 0 p refl)

      by : ((f : Env) → IsBase hook f → F f rest) → (needed : Bool) → is_needed hook (has_hooks table p) ≡ needed
          → F e (if needed then O.Plain (L.Part 2 0 i) ∷ O.Plain (L.Part 3 1 i) ∷ O.Hook hook p 2 3 ∷ rest else rest)
      by later false is = later e b
      by later true is =
          more (a_part (inl refl) b.to b.begun here) (more (a_part (inr refl) b.from b.begun here)
          (more (a_hook (inl refl) (inl refl) (λ e. e) (can 0 p refl is)) (later _ (record { to = b.to; from = b.from; begun = b.begun }))))

  -- ---- a value comes to a place

  module _ (handles : IsHandled (slice_get table ty)) where
    pub assigning_fits : P Copies ty → P Ends ty → F (first_env Assigns ty) (assigning_lines ty last)
    assigning_fits copies ends =
        more (a_begin refl handles) (more (a_hook (inr (refl, refl, refl)) (inl refl) (λ e. absurd (false≢true e)) copies) (more (a_pop (inr refl) refl handles)
        (more (an_exchange {full = false} (inl refl) refl refl (λ e. omega (arith, e)) handles)
        (more (a_push {full = true} refl refl handles)
        (more (a_hook (inr (refl, refl, refl)) (inr (refl, refl, refl)) (λ e. refl) ends) (more (a_pop (inl refl) refl handles)
        (last_fits Assigns _ (record { to = refl; from = refl; begun = refl }))))))))

    pub sinking_fits : P Ends ty → F (first_env Sinks ty) (sinking_lines ty last)
    sinking_fits ends = more (a_trade refl refl handles)
        (more (a_hook (inl refl) (inl refl) (λ e. refl) ends) (last_fits Sinks _ (record { to = refl; from = refl; begun = refl })))

  pub base_fits : (hook : Hook) (base : ℕ) → IsDistinct (slice_get table ty) base → P hook base → F (first_env hook ty) (O.Hook hook base 0 1 ∷ last)
  base_fits hook base distinct can = more (a_base refl refl (λ e. e) distinct can) (last_fits hook _ (record { to = refl; from = refl; begun = refl }))

  -- ---- loops

  -- what is known in a loop is known at its first line
  module _ (places : ℕ → Option (Bool × ℕ)) (low : (j : ℕ) (t : Bool × ℕ) → places j ≡ Some t → j ≤ 1) (always : ℕ → Bool)
      (has : ℕ → Option (Bool × (Bool × ℕ)))
      (is_first : joined 1 ≡ at_labels_of places always has 1) (is_last : joined 0 ≡ at_labels_of places always has 0) where
    abbrev inner : Env
    inner = at_labels_of places always has 1

    abbrev outer : Env
    outer = at_labels_of places always has 0

    covers_last : (e : Env) → ((j : ℕ) (t : Bool × ℕ) → places j ≡ Some t → e.at j ≡ Some t) → e.has ≡ has
        → ((t : ℕ) → always t ≡ true → e.counts t ≡ true) → e.begun ≡ None → Covers e (joined 0)
    covers_last e at same counts begun = subst (Covers e) (sym is_last) (record {
      at = at;
      has = λ t x is. ap (λ f. f t) same ∙ is;
      counts = counts;
      small = λ is. absurd (false≢true is);
      begun = begun;
    })

    covers_first : (e : Env) → ((j : ℕ) (t : Bool × ℕ) → places j ≡ Some t → e.at j ≡ Some t) → e.has ≡ has
        → ((t : ℕ) → loop_counts always t ≡ true → e.counts t ≡ true) → e.begun ≡ None → Covers e (joined 1)
    covers_first e at same counts begun = subst (Covers e) (sym is_first) (record {
      at = at;
      has = λ t x is. ap (λ f. f t) same ∙ is;
      counts = counts;
      small = λ is. absurd (false≢true is);
      begun = begun;
    })

    -- with locations of parts, what is known of the others stays
    parts_more : (one other : Option (Bool × ℕ)) (j : ℕ) (t : Bool × ℕ) → places j ≡ Some t → set (set places 2 one) 3 other j ≡ Some t
    parts_more one other j t is =
        set_there (set places 2 one) 3 other j (λ e. let l = low j t is in omega (arith, e, l))
        ∙ (set_there places 2 one j (λ e. let l = low j t is in omega (arith, e, l)) ∙ is)

    -- numbers that are there all the time are there in a loop
    in_loop : (t : ℕ) → always t ≡ true → loop_counts always t ≡ true
    in_loop t is = set_true (set always 5 true) 4 t (set_true always 5 t is)

    -- behind the last turn
    after_turns : (t : ℕ) → always t ≡ true → t ≢ 4 → set (loop_counts always) 4 false t ≡ true
    after_turns t is away = set_there (loop_counts always) 4 false t away ∙ in_loop t is

    -- a loop, whose two lines lead to elements of a type, from where both numbers are there
    pub turns_fit : (hook : Hook) (el : ℕ) (o : Bool) (one other : LiftedLine) (k : List LiftedLine) → (from_own hook ≡ true → o ≡ true) → P hook el
        → Fits table ty joined P inner one (record inner { at = set places 2 (Some (true, el)); small = true })
        → Fits table ty joined P (record inner { at = set places 2 (Some (true, el)); small = true }) other
        (record inner { at = set (set places 2 (Some (true, el))) 3 (Some (o, el)); small = true })
        → F outer k → ((t : ℕ) → always t ≡ true → t ≢ 4)
        → F (counted (record outer { counts = loop_counts always }) 4)
        (O.Plain (L.Label 1) ∷ one ∷ other ∷ O.Hook hook el 2 3 ∷ O.Plain (L.CountTurn 4 5 false 1) ∷ O.Plain (L.Label 0) ∷ k)
    turns_fit hook el o one other k asked can fit_one fit_other rest away =
        let inside : Env = record inner { at = set (set places 2 (Some (true, el))) 3 (Some (o, el)); small = true } in
        more {f = joined 1} (a_label (covers_first (counted (record outer { counts = loop_counts always }) 4) (λ j t is. is) refl
        (λ t is. set_true (loop_counts always) 4 t is) refl))
        (subst (λ e. F e (one ∷ other ∷ O.Hook hook el 2 3 ∷ O.Plain (L.CountTurn 4 5 false 1) ∷ O.Plain (L.Label 0) ∷ k)) (sym is_first)
        (more fit_one (more fit_other (more (a_hook (inl refl) (inl refl) asked can)
        (more (a_turn (inr (inl refl)) refl refl (λ e. omega (arith, e)) refl
        (covers_first (counted inside 4) (parts_more (Some (true, el)) (Some (o, el))) refl (λ t is. set_true (loop_counts always) 4 t is) refl))
        (more {f = joined 0} (a_label (covers_last _ (parts_more (Some (true, el)) (Some (o, el))) refl (λ t is. after_turns t is (away t is)) refl))
        (subst (λ e. F e k) (sym is_last) rest)))))))

  -- ---- arrays

  module _ (hook : Hook) (n el : ℕ) (typed : slice_get table ty ≡ Some (D.Array n el)) (few : n < 2 ^ 32) (is_first : joined 1 ≡ at_labels hook ty no_pair 1)
      (is_last : joined 0 ≡ at_labels hook ty no_pair 0) where
    pub array_fits : P hook el → F (first_env hook ty) (array_lines hook n el last)
    array_fits can =
        more (a_number (inr (inl refl)) few) (more (a_zero (inl refl))
        (more (a_test (inl refl) (inr (inl refl)) refl refl
        (covers_last (first_at hook ty) (first_low hook ty) no_count no_pair is_first is_last _ (λ j t is. is) refl (λ t is. absurd (false≢true is)) refl))
        (turns_fit (first_at hook ty) (first_low hook ty) no_count no_pair is_first is_last hook el (from_own hook) (O.Member 2 0 4 n) (O.Member 3 1 4 n) last
        (λ e. e) can
        (a_member (inl refl) refl typed few refl refl) (a_member (inr refl) refl typed few refl refl)
        (last_fits hook _ (record { to = refl; from = refl; begun = refl })) (λ t is. absurd (false≢true is)))))

  -- ---- sequences

  module _ (el : ℕ) (typed : slice_get table ty ≡ Some (D.Seq el)) where
    seq_handled : IsHandled (slice_get table ty)
    seq_handled = subst IsHandled (sym typed) tt

    pub copying_fits : joined 1 ≡ at_labels Copies ty (copied_pairs ty) 1 → joined 0 ≡ at_labels Copies ty (copied_pairs ty) 0 → P Copies el
        → F (first_env Copies ty) (copying_lines ty el last)
    copying_fits is_first is_last can =
        more (a_load (inr refl) refl refl seq_handled) (more (a_take (inl refl) refl refl typed) (more (a_count (inr (inl refl)) refl) (more (a_zero (inl refl))
        (more (a_test (inl refl) (inr (inl refl)) refl refl
        (covers_last (first_at Copies ty) (first_low Copies ty) no_count (copied_pairs ty) is_first is_last _ (λ j t is. is) refl
        (λ t is. absurd (false≢true is)) refl))
        (turns_fit (first_at Copies ty) (first_low Copies ty) no_count (copied_pairs ty) is_first is_last Copies el false (O.Element 2 6 0 4)
        (O.Element 3 7 1 4) last (λ e. e) can
        (an_element (inl refl) refl refl tt typed refl refl) (an_element (inr refl) refl refl refl typed refl refl)
        (last_fits Copies _ (record { to = refl; from = refl; begun = refl })) (λ t is. absurd (false≢true is)))))))

    pub ending_fits : joined 1 ≡ at_labels Ends ty (ended_pair ty) 1 → joined 0 ≡ at_labels Ends ty (ended_pair ty) 0 → (has_hooks table el ≡ true → P Ends el)
        → F (first_env Ends ty) (ending_lines table ty el last)
    ending_fits is_first is_last can = more (a_load (inl refl) refl tt seq_handled) (by (has_hooks table el) refl)
      where
        giving : List LiftedLine
        giving = O.GiveBack ty 0 6 ∷ last

        loop : List LiftedLine
        loop = O.Count 5 6 ∷ loop_lines Ends el (O.Element 2 6 0 4) (O.Element 3 6 0 4) giving

        by : (hooks : Bool) → has_hooks table el ≡ hooks → F (handled (first_env Ends ty) 6 true true ty) (if hooks then loop else giving)
        by false is = more (a_give_back refl refl seq_handled) (last_fits Ends _ (record { to = refl; from = refl; begun = refl }))
        by true is =
            more (a_count (inr (inl refl)) refl) (more (a_zero (inl refl))
            (more (a_test (inl refl) (inr (inl refl)) refl refl (covers_last (first_at Ends ty) (first_low Ends ty) no_count (ended_pair ty) is_first is_last _
            (λ j t is. is) refl (λ t is. absurd (false≢true is)) refl))
            (turns_fit (first_at Ends ty) (first_low Ends ty) no_count (ended_pair ty) is_first is_last Ends el true (O.Element 2 6 0 4) (O.Element 3 6 0 4)
            giving (λ e. refl) (can is)
            (an_element (inl refl) refl refl tt typed refl refl) (an_element (inr refl) refl refl tt typed refl refl)
            (more (a_give_back refl refl seq_handled) (last_fits Ends _ (record { to = refl; from = refl; begun = refl })))
            (λ t is. absurd (false≢true is)))))

    -- one is made shorter
    pub cutting_fits : joined 1 ≡ at_labels_of (cut_at ty) cut_count (ended_pair ty) 1 → joined 0 ≡ at_labels_of (cut_at ty) cut_count (ended_pair ty) 0
        → P Ends el → F (cut_env ty) (cut_lines el)
    cutting_fits is_first is_last can =
        more (a_load (inl refl) refl tt seq_handled) (more (a_shorten refl refl (inr (inr refl)) refl seq_handled typed)
        (more (a_count (inr (inl refl)) refl) (more (a_copy (inl refl) (inr (inr refl)) refl)
        (more (a_test (inl refl) (inr (inl refl)) refl refl
        (covers_last (cut_at ty) (cut_low ty) cut_count (ended_pair ty) is_first is_last _ (λ j t is. is) refl
        (λ t is. set_true (set cut_count 5 true) 4 t (set_true cut_count 5 t is)) refl))
        (turns_fit (cut_at ty) (cut_low ty) cut_count (ended_pair ty) is_first is_last Ends el true (O.Element 2 6 0 4) (O.Element 3 6 0 4)
        (O.Forget 6 8 ∷ last) (λ e. refl) can
        (an_element (inl refl) refl refl tt typed refl refl) (an_element (inr refl) refl refl tt typed refl refl)
        (more (a_forget refl (inr (inr refl)) refl typed) (more (a_return refl refl) none)) cut_away)))))

-- ---- labels stand once

module _ (table : List TypeDef) where
  pub parts_distinct : (hook : Hook) (ps : List ℕ) (i : ℕ) → Distinct (part_lines table hook ps i last)
  parts_distinct hook [] i = (λ name e. absurd (none_some e), tt)
  parts_distinct hook (p ∷ ps) i = by (is_needed hook (has_hooks table p)) (parts_distinct hook ps (suc i))
    where
      rest : List LiftedLine
      rest = part_lines table hook ps (suc i) last

      by : (needed : Bool) → Distinct rest → Distinct (if needed then O.Plain (L.Part 2 0 i) ∷ O.Plain (L.Part 3 1 i) ∷ O.Hook hook p 2 3 ∷ rest else rest)
      by false later = later
      by true later = (λ name e. absurd (none_some e), (λ name e. absurd (none_some e), (λ name e. absurd (none_some e), later)))

-- lines without a label
abbrev pub Unlabelled : List LiftedLine → Type 0
Unlabelled k = (name : ℕ) → from_label label_of name k ≡ None

turns_distinct : (hook : Hook) (el : ℕ) (one other : LiftedLine) (k : List LiftedLine) → label_of one ≡ None → label_of other ≡ None → Unlabelled k → Distinct k
    → Distinct (turn_lines hook el one other k)
turns_distinct hook el one other k none_one none_other plain rest = (
  λ name e. subst (λ n. from_label label_of n behind ≡ None) (same_some 1 name e) nowhere,
  (
    λ name e. absurd (none_some (sym none_one ∙ e)),
    (
      λ name e. absurd (none_some (sym none_other ∙ e)),
      (λ name e. absurd (none_some e), (λ name e. absurd (none_some e), (λ name e. plain name, rest))),
    ),
  ),
)
  where
    later : List LiftedLine
    later = O.Hook hook el 2 3 ∷ O.Plain (L.CountTurn 4 5 false 1) ∷ O.Plain (L.Label 0) ∷ k

    behind : List LiftedLine
    behind = one ∷ other ∷ later

    nowhere : from_label label_of 1 behind ≡ None
    nowhere =
        ap (λ o. if is_name 1 o then Some behind else from_label label_of 1 (other ∷ later)) none_one
        ∙ (ap (λ o. if is_name 1 o then Some (other ∷ later) else from_label label_of 1 later) none_other ∙ plain 1)

-- what stands in front of them has none
pub loop_distinct : (hook : Hook) (el : ℕ) (one other : LiftedLine) (k : List LiftedLine) → label_of one ≡ None → label_of other ≡ None → Unlabelled k →
    Distinct k
    → Distinct (loop_lines hook el one other k)
loop_distinct hook el one other k none_one none_other plain rest =
    (λ name e. absurd (none_some e), (λ name e. absurd (none_some e), turns_distinct hook el one other k none_one none_other plain rest))

last_distinct : Distinct last
last_distinct = (λ name e. absurd (none_some e), tt)

pub cut_distinct : (el : ℕ) → Distinct (cut_lines el)
cut_distinct el = (
  λ name e. absurd (none_some e),
  (
    λ name e. absurd (none_some e),
    (
      λ name e. absurd (none_some e),
      (
        λ name e. absurd (none_some e),
        (
          λ name e. absurd (none_some e),
          turns_distinct Ends el (O.Element 2 6 0 4) (O.Element 3 6 0 4) (O.Forget 6 8 ∷ last) refl refl (λ name. refl)
              (λ name e. absurd (none_some e), last_distinct),
        ),
      ),
    ),
  ),
)

module _ (table : List TypeDef) (ty : ℕ) where
  abbrev Assigning_needs : Hook → (Hook → ℕ → Type 0) → Type 0
  Assigning_needs Assigns P = P Copies ty × P Ends ty
  Assigning_needs Sinks P = P Ends ty
  Assigning_needs hook P = Unit {0}

  abbrev Sequence_needs : Hook → (el : ℕ) → (Hook → ℕ → Type 0) → Type 0
  Sequence_needs Copies el P = P Copies el
  Sequence_needs Ends el P = has_hooks table el ≡ true → P Ends el
  Sequence_needs Assigns el P = P Copies ty × P Ends ty
  Sequence_needs Sinks el P = P Ends ty

  abbrev Parts_need : Hook → List ℕ → (Hook → ℕ → Type 0) → Type 0
  Parts_need hook ps P = (j p : ℕ) → slice_get ps j ≡ Some p → is_needed hook (has_hooks table p) ≡ true → P hook p

  -- what has to be so of the hooks that a hook calls
  abbrev pub Needs : Hook → TypeDef → (Hook → ℕ → Type 0) → Type 0
  Needs hook D.Text P = Assigning_needs hook P
  Needs hook (D.Seq el) P = Sequence_needs hook el P
  Needs hook (D.Array n el) P = P hook el × (n < 2 ^ 32)
  Needs hook (D.Tuple names ps) P = Parts_need hook ps P
  Needs hook (D.Object name at of fields own ps) P = Parts_need hook ps P
  Needs hook (D.Distinct name at base) P = P hook base
  Needs hook d P = Unit {0}

  -- what is known at the labels of a hook
  abbrev sequence_labels : Hook → ℕ → Env
  sequence_labels Copies = at_labels Copies ty (copied_pairs ty)
  sequence_labels Ends = at_labels Ends ty (ended_pair ty)
  sequence_labels hook = at_labels hook ty no_pair

  abbrev pub labels_of : Hook → TypeDef → ℕ → Env
  labels_of hook (D.Seq el) = sequence_labels hook
  labels_of hook d = at_labels hook ty no_pair

  pub record AreFitting (hook : Hook) (P : Hook → ℕ → Type 0) (joined : ℕ → Env) (lines : List LiftedLine) : Type 0 where
    pub fit : AllFit table ty joined P (first_env hook ty) lines
    pub distinct : Distinct lines

  abbrev Fit_of : (P : Hook → ℕ → Type 0) → Hook → TypeDef → Type 0
  Fit_of P hook d = AreFitting hook P (labels_of hook d) (lines_of table hook ty d)

  module _ (P : Hook → ℕ → Type 0) where
    abbrev no_hooks : {hook : Hook} {joined : ℕ → Env} → AreFitting hook P joined last
    no_hooks {hook} {joined} = record {
      fit = last_fits table ty joined P hook (first_env hook ty) (record { to = refl; from = refl; begun = refl });
      distinct = last_distinct;
    }

    -- a text or a sequence
    by_assigning : (joined : ℕ → Env) → IsHandled (slice_get table ty) → P Copies ty → P Ends ty → AreFitting Assigns P joined (assigning_lines ty last)
    by_assigning joined handles copies ends = record {
      fit = assigning_fits table ty joined P handles copies ends;
      distinct = (
        λ name e. absurd (none_some e),
        (
          λ name e. absurd (none_some e),
          (
            λ name e. absurd (none_some e),
            (
              λ name e. absurd (none_some e),
              (λ name e. absurd (none_some e), (λ name e. absurd (none_some e), (λ name e. absurd (none_some e), last_distinct))),
            ),
          ),
        ),
      );
    }

    by_sinking : (joined : ℕ → Env) → IsHandled (slice_get table ty) → P Ends ty → AreFitting Sinks P joined (sinking_lines ty last)
    by_sinking joined handles ends = record {
      fit = sinking_fits table ty joined P handles ends;
      distinct = (λ name e. absurd (none_some e), (λ name e. absurd (none_some e), last_distinct));
    }

    by_parts : (joined : ℕ → Env) (hook : Hook) (ps : List ℕ) → plain_parts (slice_get table ty) ≡ ps → Parts_need hook ps P
        → AreFitting hook P joined (part_lines table hook ps 0 last)
    by_parts joined hook ps is can = record {
      fit = parts_fit table ty joined P hook ps 0 (first_env hook ty) (record { to = refl; from = refl; begun = refl })
          (λ j p at. subst (λ n. slice_get (plain_parts (slice_get table ty)) n ≡ Some p) (let e : j ≡ 0 + j = omega arith in e)
          (ap (λ qs. slice_get qs j) is ∙ at))
          can;
      distinct = parts_distinct table hook ps 0;
    }

    by_object : (joined : ℕ → Env) (hook : Hook) (own : Bool) (ps : List ℕ) → (own ≡ false → plain_parts (slice_get table ty) ≡ ps) → Parts_need hook ps P
        → AreFitting hook P joined (if own then last else part_lines table hook ps 0 last)
    by_object joined hook true ps is can = no_hooks
    by_object joined hook false ps is can = by_parts joined hook ps (is refl) can

    by_text : (hook : Hook) → slice_get table ty ≡ Some D.Text → Assigning_needs hook P → is_routine D.Text hook ≡ false → Fit_of P hook D.Text
    by_text Copies typed can runs = absurd (false≢true (sym runs))
    by_text Ends typed can runs = absurd (false≢true (sym runs))
    by_text Assigns typed can runs = by_assigning (labels_of Assigns D.Text) (subst IsHandled (sym typed) tt) can.0 can.1
    by_text Sinks typed can runs = by_sinking (labels_of Sinks D.Text) (subst IsHandled (sym typed) tt) can

    by_sequence : (hook : Hook) (el : ℕ) → slice_get table ty ≡ Some (D.Seq el) → Sequence_needs hook el P → Fit_of P hook (D.Seq el)
    by_sequence Assigns el typed can = by_assigning (labels_of Assigns (D.Seq el)) (subst IsHandled (sym typed) tt) can.0 can.1
    by_sequence Sinks el typed can = by_sinking (labels_of Sinks (D.Seq el)) (subst IsHandled (sym typed) tt) can
    by_sequence Copies el typed can = record {
      fit = copying_fits table ty (labels_of Copies (D.Seq el)) P el typed refl refl can;
      distinct = (
        λ name e. absurd (none_some e),
        (
          λ name e. absurd (none_some e),
          (λ name e. absurd (none_some e), loop_distinct Copies el (O.Element 2 6 0 4) (O.Element 3 7 1 4) last refl refl (λ name. refl) last_distinct),
        ),
      );
    }
    by_sequence Ends el typed can = record {
      fit = ending_fits table ty (labels_of Ends (D.Seq el)) P el typed refl refl can;
      distinct = (λ name e. absurd (none_some e), by (has_hooks table el));
    }
      where
        giving : List LiftedLine
        giving = O.GiveBack ty 0 6 ∷ last

        giving_distinct : Distinct giving
        giving_distinct = (λ name e. absurd (none_some e), last_distinct)

        by : (hooks : Bool) → Distinct (if hooks then O.Count 5 6 ∷ loop_lines Ends el (O.Element 2 6 0 4) (O.Element 3 6 0 4) giving else giving)
        by false = giving_distinct
        by true = (
          λ name e. absurd (none_some e),
          loop_distinct Ends el (O.Element 2 6 0 4) (O.Element 3 6 0 4) giving refl refl (λ name. refl)
              giving_distinct,
        )

    pub all_fit : (hook : Hook) (d : TypeDef) → slice_get table ty ≡ Some d → Needs hook d P → is_routine d hook ≡ false → Fit_of P hook d
    all_fit hook D.Text typed can runs = by_text hook typed can runs
    all_fit hook (D.Seq el) typed can runs = by_sequence hook el typed can
    all_fit hook (D.Array n el) typed can runs = record {
      fit = array_fits table ty (labels_of hook (D.Array n el)) P hook n el typed can.1 refl refl can.0;
      distinct = (λ name e. absurd (none_some e), loop_distinct hook el (O.Member 2 0 4 n) (O.Member 3 1 4 n) last refl refl (λ name. refl) last_distinct);
    }
    all_fit hook (D.Tuple names ps) typed can runs = by_parts (labels_of hook (D.Tuple names ps)) hook ps (ap plain_parts typed) can
    all_fit hook (D.Object name place of fields own ps) typed can runs =
        by_object (labels_of hook (D.Object name place of fields own ps)) hook own ps
        (λ none. ap plain_parts typed ∙ ap (λ o. plain_parts (Some (D.Object name place of fields o ps))) none) can
    all_fit hook (D.Distinct name place base) typed can runs = record {
      fit = base_fits table ty (labels_of hook (D.Distinct name place base)) P hook base (subst (λ o. IsDistinct o base) (sym typed) refl) can;
      distinct = (λ name e. absurd (none_some e), last_distinct);
    }
    all_fit hook D.Int typed can runs = no_hooks
    all_fit hook D.Bool typed can runs = no_hooks
    all_fit hook D.Char typed can runs = no_hooks
    all_fit hook (D.Param n) typed can runs = no_hooks
    all_fit hook (D.Enum name place all) typed can runs = no_hooks
    all_fit hook (D.Ref name base) typed can runs = no_hooks
    all_fit hook (D.Exception name place parent) typed can runs = no_hooks
