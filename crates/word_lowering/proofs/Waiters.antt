-- What waits at nodes: each has a home and a variable of its own, apart from those of all others.
use Rattle.std.proofs.Common.{◌≡◌, ◌≢◌, ◌⊎◌, inl, inr, refl, sym, ap, ◌∙◌, ℕ, ◌+◌, ◌≤◌, ◌<◌, List, [], ◌∷◌, arith}
use Rattle.std.proofs.Common.{Bool, true, false, Option, Some, None}
use Rattle.std.specs.Prelude.{nat_eq, if◌then◌else◌}
use Rattle.std.proofs.lemmas.Bool.{eqb-true}
use Rattle.std.proofs.lemmas.Option.{none-some, same_Some}
use Rattle.word_lowering.specs.declared.homes.Free.{Free}
use Rattle.word_lowering.specs.declared.homes.Housed.{Housed}
use Rattle.word_lowering.specs.declared.homes.Waiter.{Waiter}
use Rattle.word_lowering.specs.Layouts.{and_waiter, behind_waiter, behind_waiters, waiters}
use Rattle.word_lowering.specs.WaitingCode.{waiter_at}
use Rattle.word_lowering.proofs.WaiterHomes.{waiters_grow}

-- it is that of its node
pub node_is : (ws : List Waiter) (node : ℕ) (w : Waiter) → waiter_at node ws ≡ Some w → w.node ≡ node
node_is [] node w e = absurd (none-some w e)
node_is (u ∷ ws) node w e = by (nat_eq u.node node) refl (λ f. node_is ws node w f) e
  where
    by : (b : Bool) → nat_eq u.node node ≡ b → (waiter_at node ws ≡ Some w → w.node ≡ node) → (if b then Some u else waiter_at node ws) ≡ Some w
        → w.node ≡ node
    by true t go e = ap (λ (z : Waiter). z.node) (sym (same_Some u w e)) ∙ eqb-true u.node node t
    by false t go e = go e

-- behind what was taken
pub record IsBehind (free : Free) (w : Waiter) : Type 0 where
  pub variable : free.variable ≤ w.variable
  pub begins : free.byte ≤ w.at

-- and before what isn't
pub record IsBefore (free : Free) (w : Waiter) : Type 0 where
  pub variable : w.variable < free.variable
  pub ends : w.at + w.bytes ≤ free.byte

abbrev pub first : (node ty bytes : ℕ) → Free → Waiter
first node ty bytes free = record { node = node; ty = ty; bytes = bytes; at = free.byte; variable = free.variable }

-- the first one, or one of the next
pub first_or_next : (node other ty bytes : ℕ) (free : Free) (ws : List Waiter) (w : Waiter) → waiter_at node (first other ty bytes free ∷ ws) ≡ Some w
    → ((other ≡ node) × (first other ty bytes free ≡ w)) ⊎ (waiter_at node ws ≡ Some w)
first_or_next node other ty bytes free ws w e = by (nat_eq other node) refl e
  where
    by : (b : Bool) → nat_eq other node ≡ b → (if b then Some (first other ty bytes free) else waiter_at node ws) ≡ Some w
        → ((other ≡ node) × (first other ty bytes free ≡ w)) ⊎ (waiter_at node ws ≡ Some w)
    by true t e = inl (eqb-true other node t, same_Some (first other ty bytes free) w e)
    by false t e = inr e

next_behind : (node bytes : ℕ) (free : Free) (w : Waiter) → IsBehind (behind_waiter (Some node) bytes free) w
    → (free.variable < w.variable) × (free.byte + bytes ≤ w.at)
next_behind node bytes free w i = let v = i.variable in let b = i.begins in (omega (arith, v), omega (arith, b))

pub behind_all : (free : Free) (hs : List Housed) (node : ℕ) (w : Waiter) → waiter_at node (waiters free hs) ≡ Some w → IsBehind free w
behind_all free [] node w e = absurd (none-some w e)
behind_all free (h ∷ hs) node w e = by h.waits (λ f. behind_all f hs node w) e
  where
    by : (o : Option ℕ) → ((f : Free) → waiter_at node (waiters f hs) ≡ Some w → IsBehind f w)
        → waiter_at node (and_waiter o h.ty h.bytes free (waiters (behind_waiter o h.bytes free) hs)) ≡ Some w → IsBehind free w
    by None go e = go free e
    by (Some n) go e = one (first_or_next node n h.ty h.bytes free (waiters (behind_waiter (Some n) h.bytes free) hs) w e)
      where
        one : ((n ≡ node) × (first n h.ty h.bytes free ≡ w)) ⊎ (waiter_at node (waiters (behind_waiter (Some n) h.bytes free) hs) ≡ Some w) → IsBehind free w
        one (inl s) =
            let v = ap (λ (z : Waiter). z.variable) s.1 in
            let a = ap (λ (z : Waiter). z.at) s.1 in record { variable = omega (arith, v); begins = omega (arith, a) }
        one (inr i) =
            let b = next_behind n h.bytes free w (go (behind_waiter (Some n) h.bytes free) i) in
            let v = b.0 in
            let a = b.1 in
            record { variable = omega (arith, v); begins = omega (arith, a) }

pub before_all : (free : Free) (hs : List Housed) (node : ℕ) (w : Waiter) → waiter_at node (waiters free hs) ≡ Some w
    → IsBefore (behind_waiters free hs) w
before_all free [] node w e = absurd (none-some w e)
before_all free (h ∷ hs) node w e = by h.waits (λ f. before_all f hs node w) e
  where
    by : (o : Option ℕ) → ((f : Free) → waiter_at node (waiters f hs) ≡ Some w → IsBefore (behind_waiters f hs) w)
        → waiter_at node (and_waiter o h.ty h.bytes free (waiters (behind_waiter o h.bytes free) hs)) ≡ Some w
        → IsBefore (behind_waiters (behind_waiter o h.bytes free) hs) w
    by None go e = go free e
    by (Some n) go e = one (first_or_next node n h.ty h.bytes free (waiters (behind_waiter (Some n) h.bytes free) hs) w e)
      where
        one : ((n ≡ node) × (first n h.ty h.bytes free ≡ w)) ⊎ (waiter_at node (waiters (behind_waiter (Some n) h.bytes free) hs) ≡ Some w)
            → IsBefore (behind_waiters (behind_waiter (Some n) h.bytes free) hs) w
        one (inl s) =
            let grows = waiters_grow (behind_waiter (Some n) h.bytes free) hs in
            let gv = grows.variable in
            let gb = grows.byte in
            let v = ap (λ (z : Waiter). z.variable) s.1 in
            let a = ap (λ (z : Waiter). z.at) s.1 in
            let b = ap (λ (z : Waiter). z.bytes) s.1 in
            record { variable = omega (arith, gv, v); ends = omega (arith, gb, a, b) }
        one (inr i) = go (behind_waiter (Some n) h.bytes free) i

-- ---- two of them

pub record AreApart (w u : Waiter) : Type 0 where
  pub variables : w.variable ≢ u.variable
  pub homes : (w.at + w.bytes ≤ u.at) ⊎ (u.at + u.bytes ≤ w.at)

turned : (w u : Waiter) → AreApart w u → AreApart u w
turned w u a = record { variables = λ e. a.variables (sym e); homes = by a.homes }
  where
    by : (w.at + w.bytes ≤ u.at) ⊎ (u.at + u.bytes ≤ w.at) → (u.at + u.bytes ≤ w.at) ⊎ (w.at + w.bytes ≤ u.at)
    by (inl h) = inr h
    by (inr h) = inl h

first_apart : (node ty bytes : ℕ) (free : Free) (w u : Waiter) → first node ty bytes free ≡ w → IsBehind (behind_waiter (Some node) bytes free) u → AreApart w u
first_apart node ty bytes free w u is behind =
    let next = next_behind node bytes free u behind in
    let v = ap (λ (z : Waiter). z.variable) is in
    let a = ap (λ (z : Waiter). z.at) is in
    let b = ap (λ (z : Waiter). z.bytes) is in
    let nv = next.0 in
    let nb = next.1 in
    record { variables = λ e. absurd (omega (arith, v, nv, e)); homes = inl (omega (arith, a, b, nb)) }

pub apart : (free : Free) (hs : List Housed) (n m : ℕ) (w u : Waiter) → n ≢ m → waiter_at n (waiters free hs) ≡ Some w
    → waiter_at m (waiters free hs) ≡ Some u → AreApart w u
apart free [] n m w u ne e f = absurd (none-some w e)
apart free (h ∷ hs) n m w u ne e f = by h.waits (λ g. apart g hs n m w u ne) e f
  where
    by : (o : Option ℕ) → ((g : Free) → waiter_at n (waiters g hs) ≡ Some w → waiter_at m (waiters g hs) ≡ Some u → AreApart w u)
        → waiter_at n (and_waiter o h.ty h.bytes free (waiters (behind_waiter o h.bytes free) hs)) ≡ Some w
        → waiter_at m (and_waiter o h.ty h.bytes free (waiters (behind_waiter o h.bytes free) hs)) ≡ Some u → AreApart w u
    by None go e f = go free e f
    by (Some k) go e f = both (first_or_next n k h.ty h.bytes free rest w e) (first_or_next m k h.ty h.bytes free rest u f)
      where
        next : Free
        next = behind_waiter (Some k) h.bytes free

        rest : List Waiter
        rest = waiters next hs

        both : ((k ≡ n) × (first k h.ty h.bytes free ≡ w)) ⊎ (waiter_at n rest ≡ Some w) →
            ((k ≡ m) × (first k h.ty h.bytes free ≡ u)) ⊎ (waiter_at m rest ≡ Some u)
            → AreApart w u
        both (inl a) (inl b) = absurd (ne (sym a.0 ∙ b.0))
        both (inl a) (inr j) = first_apart k h.ty h.bytes free w u a.1 (behind_all next hs m u j)
        both (inr i) (inl b) = turned u w (first_apart k h.ty h.bytes free u w b.1 (behind_all next hs n w i))
        both (inr i) (inr j) = go next i j
