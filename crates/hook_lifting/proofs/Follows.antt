-- How the lines of a hook follow deeds.
use Rattle.std.proofs.Common.{◌≡◌, ℕ, zero, suc, ◌+◌, ◌*◌, ◌≤◌, Bool, true, false, List, [], ◌∷◌, ◌++◌, Option, Some, None, refl, sym, ap, ap₂, ◌∙◌, subst}
use Rattle.std.proofs.Common.{append-nil, arith, mul-le-mul, le_refl}
use Rattle.std.proofs.Math.Nat.{mul-add, add-mul}
use Rattle.std.proofs.lemmas.Bool.{false≢true}
use Rattle.std.specs.Prelude.{option_map, ◌-◌}
use Rattle.arc_base.specs.Event.{Event}
use Rattle.arc_base.specs.Stepping.{Goes}
use Rattle.nim_meaning.specs.Values.{Value, Location}
use Rattle.nim_meaning.specs.State.{World, load, is_seen}
use Rattle.nim_meaning.specs.Deeds.{Deed, Works, Done, Answers, Finishes, Fails, behind, perform, ◌>>=◌, give, unless_gone, sees}
use Rattle.flat_code.specs.declared.line.Line.TheVariants as L
use Rattle.flat_code.specs.Scene.{Known, Scene, Passes, Temps}
use Rattle.flat_code.specs.Running.{Machine, settled}
use Rattle.hook_lifting.specs.declared.lifted.Hook.{Hook}
use Rattle.hook_lifting.specs.declared.lifted.LiftedLine.{LiftedLine}
use Rattle.hook_lifting.specs.declared.lifted.LiftedLine.TheVariants as O
use Rattle.hook_lifting.specs.Lifting.{does_by, label_of, lines_step, by_next, comes_to}
use Rattle.hook_lifting.specs.Weights.{weight, pace_of, priced, first_priced, price_by, price, least_pace, Weighs}
use Rattle.hook_lifting.specs.Doing.{Alike}
use Rattle.hook_lifting.proofs.Deeds.{done_then, performs_then, nothing_later, Same, Tame, TameDone, tame_done}

abbrev pub M : Type 0
M = Machine LiftedLine

-- What hooks are, of whose lines something is shown, what those weigh that they call, what they may weigh more, and whether the forms are built.
pub record Setting : Type 0 where
  pub known : Known
  pub pace : ℕ
  pub steep : least_pace ≤ pace
  pub extra : ℕ
  pub built : Bool

abbrev pub credit : Setting → ℕ
credit g = g.pace + g.extra

-- The lines come to the same as deeds, and weigh p more at most than the pace and what is extra for each work; of that q are left at the end, and e
-- wherever it ends.
abbrev pub Near : Setting → (e p q : ℕ) → Done (Unit {0}) → Option (Done (Unit {0})) → (price : ℕ) → Type 0
Near g e p q (Answers es n x world) (Some (Answers fs m y other)) c = (fs ≡ es) × (other ≡ world) × (g.built ≡ true → c + (q + e) ≤ credit g * n + p)
Near g e p q (Finishes es n status world) (Some (Finishes fs m other left)) c = (fs ≡ es) × (other ≡ status) × (g.built ≡ true → c + e ≤ credit g * n + p)
Near g e p q (Fails es n world) came c = Unit {0}
Near g e p q d came c = ⊥

-- ---- behind what was shown and worked before

module _ (g : Setting) where
  abbrev R : ℕ
  R = credit g

  -- more of it
  abbrev Built : Type 0
  Built = g.built ≡ true

  near_behind : (p q c l k w : ℕ) (es fs : List Event) (n : ℕ) → fs ≡ es → (Built → k + l ≤ R * n + c) → (d : Done (Unit {0}))
      (came : Option (Done (Unit {0}))) (price : ℕ) → Near g 0 p q d came price → Near g l (c + p) q (behind es n d) (option_map (behind fs w) came) (k + price)
  near_behind p q c l k w es fs n e le (Answers gs m x v) (Some (Answers hs j y u)) price h = (
    ap₂ (λ a b. a ++ b) e h.0,
    h.1,
    λ b. let s = mul-add R n m in let a = le b in let i = h.2 b in omega (arith, s, a, i),
  )
  near_behind p q c l k w es fs n e le (Finishes gs m x v) (Some (Finishes hs j y u)) price h = (
    ap₂ (λ a b. a ++ b) e h.0,
    h.1,
    λ b. let s = mul-add R n m in let a = le b in let i = h.2 b in omega (arith, s, a, i),
  )
  near_behind p q c l k w es fs n e le (Answers gs m x v) (Some (Finishes hs j y u)) price h = absurd h
  near_behind p q c l k w es fs n e le (Answers gs m x v) (Some (Fails hs j u)) price h = absurd h
  near_behind p q c l k w es fs n e le (Answers gs m x v) None price h = absurd h
  near_behind p q c l k w es fs n e le (Finishes gs m x v) (Some (Answers hs j y u)) price h = absurd h
  near_behind p q c l k w es fs n e le (Finishes gs m x v) (Some (Fails hs j u)) price h = absurd h
  near_behind p q c l k w es fs n e le (Finishes gs m x v) None price h = absurd h
  near_behind p q c l k w es fs n e le (Fails gs m v) came price h = tt

  near_later : (e p q c w : ℕ) (d : Done (Unit {0})) (came : Option (Done (Unit {0}))) (price : ℕ) → Near g e p q d came price
      → Near g e (c + p) q d (option_map (behind [] w) came) (c + price)
  near_later e p q c w (Answers gs m x v) (Some (Answers hs j y u)) price h = (h.0, h.1, λ b. let i = h.2 b in omega (arith, i))
  near_later e p q c w (Finishes gs m x v) (Some (Finishes hs j y u)) price h = (h.0, h.1, λ b. let i = h.2 b in omega (arith, i))
  near_later e p q c w (Answers gs m x v) (Some (Finishes hs j y u)) price h = absurd h
  near_later e p q c w (Answers gs m x v) (Some (Fails hs j u)) price h = absurd h
  near_later e p q c w (Answers gs m x v) None price h = absurd h
  near_later e p q c w (Finishes gs m x v) (Some (Answers hs j y u)) price h = absurd h
  near_later e p q c w (Finishes gs m x v) (Some (Fails hs j u)) price h = absurd h
  near_later e p q c w (Finishes gs m x v) None price h = absurd h
  near_later e p q c w (Fails gs m v) came price h = tt

  near_earned : (e p q c : ℕ) (d : Done (Unit {0})) (came : Option (Done (Unit {0}))) (price : ℕ) → Near g e (R * c + p) q d came price
      → Near g e p q (behind [] c d) came price
  near_earned e p q c (Answers gs m x v) (Some (Answers hs j y u)) price h =
      (h.0, h.1, λ b. let s = mul-add R c m in let i = h.2 b in omega (arith, s, i))
  near_earned e p q c (Finishes gs m x v) (Some (Finishes hs j y u)) price h =
      (h.0, h.1, λ b. let s = mul-add R c m in let i = h.2 b in omega (arith, s, i))
  near_earned e p q c (Answers gs m x v) (Some (Finishes hs j y u)) price h = absurd h
  near_earned e p q c (Answers gs m x v) (Some (Fails hs j u)) price h = absurd h
  near_earned e p q c (Answers gs m x v) None price h = absurd h
  near_earned e p q c (Finishes gs m x v) (Some (Answers hs j y u)) price h = absurd h
  near_earned e p q c (Finishes gs m x v) (Some (Fails hs j u)) price h = absurd h
  near_earned e p q c (Finishes gs m x v) None price h = absurd h
  near_earned e p q c (Fails gs m v) came price h = tt

  near_weaker : (e p q p' q' : ℕ) → p ≤ p' → q' ≤ q → (d : Done (Unit {0})) (came : Option (Done (Unit {0}))) (price : ℕ) → Near g e p q d came price
      → Near g e p' q' d came price
  near_weaker e p q p' q' less more (Answers gs m x v) (Some (Answers hs j y u)) price h = (h.0, h.1, λ b. let i = h.2 b in omega (arith, i, less, more))
  near_weaker e p q p' q' less more (Finishes gs m x v) (Some (Finishes hs j y u)) price h = (h.0, h.1, λ b. let i = h.2 b in omega (arith, i, less))
  near_weaker e p q p' q' less more (Answers gs m x v) (Some (Finishes hs j y u)) price h = absurd h
  near_weaker e p q p' q' less more (Answers gs m x v) (Some (Fails hs j u)) price h = absurd h
  near_weaker e p q p' q' less more (Answers gs m x v) None price h = absurd h
  near_weaker e p q p' q' less more (Finishes gs m x v) (Some (Answers hs j y u)) price h = absurd h
  near_weaker e p q p' q' less more (Finishes gs m x v) (Some (Fails hs j u)) price h = absurd h
  near_weaker e p q p' q' less more (Finishes gs m x v) None price h = absurd h
  near_weaker e p q p' q' less more (Fails gs m v) came price h = tt

  near_shifted : (p q c : ℕ) (d : Done (Unit {0})) (came : Option (Done (Unit {0}))) (price : ℕ) → Near g 0 p q d came price
      → Near g 0 (c + p) (c + q) d came price
  near_shifted p q c (Answers gs m x v) (Some (Answers hs j y u)) price h = (h.0, h.1, λ b. let i = h.2 b in omega (arith, i))
  near_shifted p q c (Finishes gs m x v) (Some (Finishes hs j y u)) price h = (h.0, h.1, λ b. let i = h.2 b in omega (arith, i))
  near_shifted p q c (Answers gs m x v) (Some (Finishes hs j y u)) price h = absurd h
  near_shifted p q c (Answers gs m x v) (Some (Fails hs j u)) price h = absurd h
  near_shifted p q c (Answers gs m x v) None price h = absurd h
  near_shifted p q c (Finishes gs m x v) (Some (Answers hs j y u)) price h = absurd h
  near_shifted p q c (Finishes gs m x v) (Some (Fails hs j u)) price h = absurd h
  near_shifted p q c (Finishes gs m x v) None price h = absurd h
  near_shifted p q c (Fails gs m v) came price h = tt

  -- what is left wherever it ends pays for what comes before
  near_settled : (e p q : ℕ) (d : Done (Unit {0})) (came : Option (Done (Unit {0}))) (price : ℕ) → Near g e (e + p) q d came price → Near g 0 p q d came price
  near_settled e p q (Answers gs m x v) (Some (Answers hs j y u)) price h = (h.0, h.1, λ b. let i = h.2 b in omega (arith, i))
  near_settled e p q (Finishes gs m x v) (Some (Finishes hs j y u)) price h = (h.0, h.1, λ b. let i = h.2 b in omega (arith, i))
  near_settled e p q (Answers gs m x v) (Some (Finishes hs j y u)) price h = absurd h
  near_settled e p q (Answers gs m x v) (Some (Fails hs j u)) price h = absurd h
  near_settled e p q (Answers gs m x v) None price h = absurd h
  near_settled e p q (Finishes gs m x v) (Some (Answers hs j y u)) price h = absurd h
  near_settled e p q (Finishes gs m x v) (Some (Fails hs j u)) price h = absurd h
  near_settled e p q (Finishes gs m x v) None price h = absurd h
  near_settled e p q (Fails gs m v) came price h = tt

  -- what is left at the end pays for what came before, where the run doesn't end inside
  near_paid : (e p q c : ℕ) (Q : Unit {0} → Type 0) (d : Done (Unit {0})) → TameDone false Q d → (came : Option (Done (Unit {0}))) (price : ℕ)
      → Near g e (c + p) (c + q) d came price → Near g e p q d came price
  near_paid e p q c Q (Answers gs m x v) ok (Some (Answers hs j y u)) price h = (h.0, h.1, λ b. let i = h.2 b in omega (arith, i))
  near_paid e p q c Q (Answers gs m x v) ok (Some (Finishes hs j y u)) price h = absurd h
  near_paid e p q c Q (Answers gs m x v) ok (Some (Fails hs j u)) price h = absurd h
  near_paid e p q c Q (Answers gs m x v) ok None price h = absurd h
  near_paid e p q c Q (Finishes gs m x v) ok came price h = absurd (false≢true ok.0)
  near_paid e p q c Q (Fails gs m v) ok came price h = tt

-- as the law says it
pub near_alike : (g : Setting) (p : ℕ) (d : Done (Unit {0})) (came : Option (Done (Unit {0}))) (price : ℕ) → Near g 0 p 0 d came price
    → Alike d came × (g.built ≡ true → Weighs (credit g) p d price)
near_alike g p (Answers gs m x w) (Some (Answers hs j y v)) price h = ((h.0, h.1), λ b. let i = h.2 b in omega (arith, i))
near_alike g p (Finishes gs m x w) (Some (Finishes hs j y v)) price h = ((h.0, h.1), λ b. let i = h.2 b in omega (arith, i))
near_alike g p (Answers gs m x w) (Some (Finishes hs j y v)) price h = absurd h
near_alike g p (Answers gs m x w) (Some (Fails hs j v)) price h = absurd h
near_alike g p (Answers gs m x w) None price h = absurd h
near_alike g p (Finishes gs m x w) (Some (Answers hs j y v)) price h = absurd h
near_alike g p (Finishes gs m x w) (Some (Fails hs j v)) price h = absurd h
near_alike g p (Finishes gs m x w) None price h = absurd h
near_alike g p (Fails gs m w) came price h = (tt, λ b. tt)

-- before these lines, of all those of a hook
abbrev pub at : (whole : List LiftedLine) → (level : ℕ) → List LiftedLine → Temps → World → M
at whole level k temps world = record { now = record { whole = whole; rest = k; level = level; left = 0; temps = temps }; waiting = []; world = world }

abbrev pub scene : (level : ℕ) → Temps → World → Scene
scene level temps world = record { world = world; level = level; temps = temps }

-- after some number of lines
pub record Owing (g : Setting) (e p q : ℕ) (d : Done (Unit {0})) (m : M) : Type 0 where
  pub count : ℕ
  pub near : Near g e p q d (comes_to g.known count m) (price g.known g.pace count m)

abbrev pub Follows : Setting → (p q : ℕ) → Done (Unit {0}) → M → Type 0
Follows g p q d m = Owing g 0 p q d m

abbrev pub costs_of : Setting → ℕ → M → ℕ
costs_of g n m = price g.known g.pace n m

-- ---- credit

pub weaker : {g : Setting} {e p q p' q' : ℕ} {d : Done (Unit {0})} {m : M} → p ≤ p' → q' ≤ q → Owing g e p q d m → Owing g e p' q' d m
weaker {g} {e} {p} {q} {p'} {q'} {d} {m} less more f =
    record { count = f.count; near = near_weaker g e p q p' q' less more d (comes_to g.known f.count m) (costs_of g f.count m) f.near }

pub earns : {g : Setting} {p q : ℕ} {d : Done (Unit {0})} {m : M} (c : ℕ) → Follows g (credit g * c + p) q d m → Follows g p q (behind [] c d) m
earns {g} {p} {q} {d} {m} c f =
    record { count = f.count; near = near_earned g 0 p q c d (comes_to g.known f.count m) (costs_of g f.count m) f.near }

pub shifted : {g : Setting} {p q : ℕ} {d : Done (Unit {0})} {m : M} (c : ℕ) → Follows g p q d m → Follows g (c + p) (c + q) d m
shifted {g} {p} {q} {d} {m} c f =
    record { count = f.count; near = near_shifted g p q c d (comes_to g.known f.count m) (costs_of g f.count m) f.near }

pub settles : {g : Setting} {p q : ℕ} {d : Done (Unit {0})} {m : M} (e : ℕ) → Owing g e (e + p) q d m → Follows g p q d m
settles {g} {p} {q} {d} {m} e f =
    record { count = f.count; near = near_settled g e p q d (comes_to g.known f.count m) (costs_of g f.count m) f.near }

-- nothing is left of no work
pub nothing_owed : {g : Setting} {p q : ℕ} {d : Done (Unit {0})} {m : M} → Owing g (g.extra * 0) p q d m → Follows g p q d m
nothing_owed {g} {p} {q} {d} {m} f = subst (λ e. Owing g e p q d m) (let z : g.extra * 0 ≡ 0 = omega arith in z) f

pub pays_back : {g : Setting} {p q : ℕ} {d : Done (Unit {0})} {m : M} (c : ℕ) → TameDone false (λ u. Unit {0}) d → Follows g (c + p) (c + q) d m
    → Follows g p q d m
pays_back {g} {p} {q} {d} {m} c ok f =
    record { count = f.count; near = near_paid g 0 p q c (λ u. Unit {0}) d ok (comes_to g.known f.count m) (costs_of g f.count m) f.near }

-- with another deed that comes to the same
pub alike : {g : Setting} {e p q : ℕ} {m : M} (a b : Deed (Unit {0})) (world : World) → Same a b → Owing g e p q (perform b world) m
    → Owing g e p q (perform a world) m
alike {g} {e} {p} {q} {m} a b world same f = subst (λ d. Owing g e p q d m) (sym (same world)) f

-- ---- a line

pub goes : {g : Setting} {e p q : ℕ} {d : Done (Unit {0})} {m : M} (c : ℕ) (next : M) → lines_step g.known m ≡ Goes [] c next → Owing g e p q d next
    → Owing g e (first_priced g.pace m.now.rest c + p) q d m
goes {g} {e} {p} {q} {d} {m} c next is f = record {
  count = suc f.count;
  near = subst (λ s. Near g e (cost + p) q d (by_next m s (comes_to g.known f.count)) (price_by g.pace m.now.rest s (costs_of g f.count))) (sym is)
      (near_later g e p q cost c d (comes_to g.known f.count next) (costs_of g f.count next) f.near);
}
  where
    cost : ℕ
    cost = first_priced g.pace m.now.rest c

-- ---- what a line's deed weighs

-- its answer comes, or the run ends, behind so much work
abbrev pub LeastDone : {A : Type 0} → ℕ → Done A → Type 0
LeastDone l (Answers es n x world) = l ≤ n
LeastDone l (Finishes es n status world) = l ≤ n
LeastDone l (Fails es n world) = Unit {0}

pub least_none : {A : Type 0} (d : Done A) → LeastDone 0 d
least_none (Answers es n x world) = omega arith
least_none (Finishes es n status world) = omega arith
least_none (Fails es n world) = tt

module _ (g : Setting) (whole : List LiftedLine) (level : ℕ) where
  abbrev known : Known
  known = g.known

  -- a line that does a deed, behind so much work of its own; l is left
  pub weighs : {B : Type 0} {p q : ℕ} (takes : Bool) (Q : B → Type 0) (c cost l least : ℕ) (line : LiftedLine) (k : List LiftedLine) (temps : Temps)
      (world : World) (deed : Deed B) (temps_of : B → Temps) (rest : B → Deed (Unit {0}))
      → ((n : ℕ) → least ≤ n → priced g.pace line (c + (n + 0)) + l ≤ credit g * n + cost) → (g.built ≡ true → LeastDone least (perform deed world))
      → does_by known (scene level temps world) line ≡ Passes (perform (Works c deed >>= (λ b. give (temps_of b))) world) → Tame takes Q deed
      → ((b : B) → Q b → (new : World) → Follows g p q (perform (rest b) new) (at whole level k (temps_of b) new))
      → Owing g l (cost + p) q (perform (deed >>= rest) world) (at whole level (line ∷ k) temps world)
  weighs {B} {p} {q} takes Q c cost l least line k temps world deed temps_of rest pays works is tame more =
      on (perform deed world) refl (tame_done takes Q deed tame world) works
    where
      m : M
      m = at whole level (line ∷ k) temps world

      put : B → World → Done Temps
      put b new = Answers [] 0 (temps_of b) new

      go : B → World → Done (Unit {0})
      go b new = perform (rest b) new

      stepped : (d : Done B) → perform deed world ≡ d → lines_step known m ≡ settled label_of (does_by known) [] m k (Passes (behind [] c (done_then d put)))
      stepped d e =
          ap (λ did. settled label_of (does_by known) [] m k did) is
          ∙ ap (λ x. settled label_of (does_by known) [] m k (Passes (behind [] c x)))
          (performs_then deed (λ b. give (temps_of b)) world ∙ ap (λ x. done_then x put) e)

      meant : (d : Done B) → perform deed world ≡ d → perform (deed >>= rest) world ≡ done_then d go
      meant d e = performs_then deed rest world ∙ ap (λ x. done_then x go) e

      on : (d : Done B) → perform deed world ≡ d → TameDone takes Q d → (g.built ≡ true → LeastDone least (perform deed world))
          → Owing g l (cost + p) q (perform (deed >>= rest) world) m
      on (Answers es n b new) e ok works =
          let f = more b ok new in
          let next = at whole level k (temps_of b) new in record {
            count = suc f.count;
            near =
                subst (λ s. Near g l (cost + p) q (perform (deed >>= rest) world) (by_next m s (comes_to known f.count))
                (price_by g.pace (line ∷ k) s (costs_of g f.count))) (sym (stepped (Answers es n b new) e))
                (subst (λ d. Near g l (cost + p) q d (option_map (behind (es ++ []) (c + (n + 0))) (comes_to known f.count next))
                (priced g.pace line (c + (n + 0)) + costs_of g f.count next)) (sym (meant (Answers es n b new) e))
                (near_behind g p q cost l (priced g.pace line (c + (n + 0))) (c + (n + 0)) es (es ++ []) n (append-nil es)
                (λ b. pays n (subst (LeastDone least) e (works b))) (perform (rest b) new) (comes_to known f.count next) (costs_of g f.count next) f.near));
          }
      on (Finishes es n zero new) e ok works = absurd (omega (arith, ok.1))
      on (Finishes es n (suc status) new) e ok works = record {
        count = 1;
        near =
            subst (λ s. Near g l (cost + p) q (perform (deed >>= rest) world) (by_next m s (comes_to known 0)) (price_by g.pace (line ∷ k) s (costs_of g 0)))
            (sym (stepped (Finishes es n (suc status) new) e))
            (subst (λ d. Near g l (cost + p) q d (Some (Finishes es (c + n) (suc status) world)) (priced g.pace line (c + n)))
            (sym (meant (Finishes es n (suc status) new) e)) (
              refl,
              refl,
              λ b. let h = pays n (subst (LeastDone least) e (works b)) in
                  let same : priced g.pace line (c + (n + 0)) ≡ priced g.pace line (c + n) =
                  ap (priced g.pace line) (let i : c + (n + 0) ≡ c + n = omega arith in i) in
                  omega (arith, h, same),
            ));
      }
      on (Fails es n new) e ok works =
          record { count = 0; near = subst (λ d. Near g l (cost + p) q d (comes_to known 0 m) 0) (sym (meant (Fails es n new) e)) tt }

  -- one that calls no hook
  abbrev pub IsOwn : LiftedLine → Type 0
  IsOwn line = pace_of g.pace line ≡ 4

  own_pays : (c : ℕ) → 1 ≤ c → (line : LiftedLine) → IsOwn line → (n : ℕ) → 0 ≤ n
      → priced g.pace line (c + (n + 0)) + 0 ≤ credit g * n + (weight line + 4 * (c - 1))
  own_pays c one line own n le =
      let same : priced g.pace line (c + (n + 0)) ≡ weight line + 4 * (c + (n + 0) - 1) = ap (λ r. weight line + r * (c + (n + 0) - 1)) own in
      let more : 4 * n ≤ credit g * n = mul-le-mul (let s = g.steep in let e : 4 ≤ g.pace + g.extra = omega (arith, s) in e) (le_refl n) in
      omega (arith, same, more, one)

  pub does : {B : Type 0} {p q : ℕ} (takes : Bool) (Q : B → Type 0) (c : ℕ) → 1 ≤ c → (line : LiftedLine) → IsOwn line → (k : List LiftedLine) (temps : Temps)
      (world : World) (deed : Deed B) (temps_of : B → Temps) (rest : B → Deed (Unit {0}))
      → does_by known (scene level temps world) line ≡ Passes (perform (Works c deed >>= (λ b. give (temps_of b))) world) → Tame takes Q deed
      → ((b : B) → Q b → (new : World) → Follows g p q (perform (rest b) new) (at whole level k (temps_of b) new))
      → Follows g (weight line + 4 * (c - 1) + p) q (perform (deed >>= rest) world) (at whole level (line ∷ k) temps world)
  does {p = p} {q = q} takes Q c one line own k temps world deed temps_of rest is tame more =
      weighs {p = p} {q = q} takes Q c (weight line + 4 * (c - 1)) 0 0 line k temps world deed temps_of rest (own_pays c one line own)
      (λ b. least_none (perform deed world)) is tame more

  -- One that calls a hook, whose walk works so much at least: what is extra for that is left.
  pub calls : {p q : ℕ} (takes : Bool) (least : ℕ) (hook : Hook) (ty to from : ℕ) (k : List LiftedLine) (temps : Temps) (world : World)
      (deed : Deed (Unit {0})) (rest : Deed (Unit {0})) → (g.built ≡ true → LeastDone least (perform deed world))
      → does_by known (scene level temps world) (O.Hook hook ty to from) ≡ Passes (perform (Works 1 deed >>= (λ u. give temps)) world)
      → Tame takes (λ u. Unit {0}) deed → ((new : World) → Follows g p q (perform rest new) (at whole level k temps new))
      → Owing g (g.extra * least) (4 + p) q (perform (deed >>= (λ u. rest)) world) (at whole level (O.Hook hook ty to from ∷ k) temps world)
  calls {p} {q} takes least hook ty to from k temps world deed rest works is tame more =
      weighs {p = p} {q = q} takes (λ u. Unit {0}) 1 4 (g.extra * least) least (O.Hook hook ty to from) k temps world deed (λ u. temps) (λ u. rest)
      (λ n le.
      let s = add-mul g.pace g.extra n in
      let x : g.extra * least ≤ g.extra * n = mul-le-mul (le_refl g.extra) le in
      let same : 1 + (n + 0) - 1 ≡ n = omega arith in
      let e : g.pace * (1 + (n + 0) - 1) ≡ g.pace * n = ap (λ i. g.pace * i) same in omega (arith, x, s, e))
      works is tame (λ u ok new. more new)

  -- nothing is to be shown where what is taken is gone
  pub unless_wrong : {A : Type 0} {p q : ℕ} {m : M} (world : World) (there : Bool) (go : Deed A) (rest : A → Deed (Unit {0})) →
      Follows g p q (perform (go >>= rest) world) m → Follows g p q (perform (unless_gone there go >>= rest) world) m
  unless_wrong world true go rest f = f
  unless_wrong world false go rest f = record { count = 0; near = tt }

  -- one that gets the value at a location, which is looked at
  pub looks_first : {p q : ℕ} (line : LiftedLine) (k : List LiftedLine) (temps : Temps) (world : World) (location : Location) (temps_of : Value → Temps)
      (go : Value → Deed (Unit {0})) →
      does_by known (scene level temps world) line ≡ Passes (perform (Works 1 (sees location (λ world v. give v)) >>= (λ v. give (temps_of v))) world) →
      Follows g p q (perform (go (load world location)) world) (at whole level k (temps_of (load world location)) world) →
      Follows g (priced g.pace line 1 + p) q (perform (sees location (λ world v. go v)) world) (at whole level (line ∷ k) temps world)
  looks_first {p} {q} line k temps world location temps_of go is more = on (is_seen world location) refl
    where
      v : Value
      v = load world location

      m : M
      m = at whole level (line ∷ k) temps world

      Comes : Bool → Type 0
      Comes there = Follows g (priced g.pace line 1 + p) q (perform (unless_gone there (go v)) world) m

      on : (there : Bool) → is_seen world location ≡ there → Comes (is_seen world location)
      on true e =
          subst Comes (sym e) (goes 1 (at whole level k (temps_of v) world)
          (ap (λ did. settled label_of (does_by known) [] m k did)
          (is ∙ ap (λ there. Passes (perform (Works 1 (unless_gone there (give v)) >>= (λ v. give (temps_of v))) world)) e)) more)
      on false e = subst Comes (sym e) (record { count = 0; near = tt })

  -- the last of its deeds
  pub does_last : {p q : ℕ} (takes : Bool) (c : ℕ) → 1 ≤ c → (line : LiftedLine) → IsOwn line → (k : List LiftedLine) (temps : Temps) (world : World)
      (deed : Deed (Unit {0})) →
      does_by known (scene level temps world) line ≡ Passes (perform (Works c deed >>= (λ u. give temps)) world) → Tame takes (λ u. Unit {0}) deed →
      ((new : World) → Follows g p q (Answers [] 0 tt new) (at whole level k temps new)) →
      Follows g (weight line + 4 * (c - 1) + p) q (perform deed world) (at whole level (line ∷ k) temps world)
  does_last {p} {q} takes c one line own k temps world deed is tame more =
      subst (λ d. Follows g (weight line + 4 * (c - 1) + p) q d (at whole level (line ∷ k) temps world)) (nothing_later deed world)
      (does takes (λ u. Unit {0}) c one line own k temps world deed (λ u. temps) (λ u. give tt) is tame (λ u ok new. more new))

  pub calls_last : {p q : ℕ} (takes : Bool) (hook : Hook) (ty to from : ℕ) (k : List LiftedLine) (temps : Temps) (world : World) (deed : Deed (Unit {0}))
      → does_by known (scene level temps world) (O.Hook hook ty to from) ≡ Passes (perform (Works 1 deed >>= (λ u. give temps)) world)
      → Tame takes (λ u. Unit {0}) deed → ((new : World) → Follows g p q (Answers [] 0 tt new) (at whole level k temps new))
      → Follows g (4 + p) q (perform deed world) (at whole level (O.Hook hook ty to from ∷ k) temps world)
  calls_last {p} {q} takes hook ty to from k temps world deed is tame more =
      subst (λ d. Follows g (4 + p) q d (at whole level (O.Hook hook ty to from ∷ k) temps world)) (nothing_later deed world)
      (nothing_owed (calls takes 0 hook ty to from k temps world deed (give tt) (λ b. least_none (perform deed world)) is tame more))

  pub returns : (k : List LiftedLine) (temps : Temps) (world : World) →
      Follows g 1 0 (Answers [] 0 tt world) (at whole level (O.Plain (L.Return None) ∷ k) temps world)
  returns k temps world = record { count = 1; near = (refl, refl, λ b. omega arith) }
