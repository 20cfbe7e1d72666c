-- The address of an element of an array that is there comes into a variable.
use Rattle.std.proofs.Common.{◌≡◌, ℕ, ◌+◌, ◌*◌, ◌%◌, ◌^◌, ◌<◌, ◌≤◌, List, ◌∷◌, Some, refl, ap, subst, ◌∙◌, arith}
use Rattle.rv32_isa.specs.Values.{low_product}
use Rattle.word_code.specs.declared.word.WordInstr.{WordInstr}
use Rattle.word_code.specs.declared.word.WordInstr.TheVariants.{Compute}
use Rattle.word_code.specs.Words.{Vars, put}
use Rattle.word_code.proofs.ForCallers.{Runs, at, got, run_compute, run_constant, then_runs}
use Rattle.word_lowering.specs.declared.homes.TheConstants.{FIFTH, FIRST, OWN_FROM, SECOND}
use Rattle.word_lowering.specs.declared.homes.Home.{Home}
use Rattle.word_lowering.specs.declared.homes.Home.TheVariants.{Placed, Static, Variable}
use Rattle.word_lowering.specs.LineCode.{behind_code, element_code}
use Rattle.word_lowering.specs.Spots.{address}
use Rattle.word_lowering.proofs.Lines.{Basis, all_procs}
use Rattle.word_lowering.proofs.Moves.{IsHigh, address_runs, same_first, same_more, same_second}
use Rattle.word_lowering.proofs.OpRuns.{same_put}
use Rattle.word_lowering.proofs.OrdinalRuns.{AllSame, put_here, put_low, put_other}
use Rattle.word_lowering.proofs.Related.{Both, within}
use Rattle.word_lowering.proofs.Scenes.{Points}
use Rattle.flat_code.specs.declared.line.Line.TheVariants as L
use Rattle.word_code.specs.declared.word.WordOperation.TheVariants as operation

module _ (x : Basis) (g : Both) where
  -- the address of an element is in the fifth variable
  pub record InFifth (lines k : List WordInstr) (a : ℕ) : Type 0 where
    pub vars : Vars
    pub holds : vars FIFTH ≡ Some a
    pub same : AllSame g.call.vars vars
    pub steps : ℕ
    pub few : steps ≤ 4
    pub runs : Runs x.live (all_procs x) steps (at (within x.table x.blocks g) g.memory lines g.call.vars g.words)
        (at (within x.table x.blocks g) g.memory k vars g.words)

  -- as many bytes as FIRST says behind a home
  record Behind (most : ℕ) (lines k : List WordInstr) (v : Vars) (a : ℕ) : Type 0 where
    vars : Vars
    holds : vars FIFTH ≡ Some a
    same : AllSame v vars
    steps : ℕ
    few : steps ≤ most
    runs : Runs x.live (all_procs x) steps (at (within x.table x.blocks g) g.memory lines v g.words)
        (at (within x.table x.blocks g) g.memory k vars g.words)

  added_behind : (most : ℕ) → 1 ≤ most → (k : List WordInstr) (v : Vars) (u a o : ℕ) → v u ≡ Some a → v FIRST ≡ Some o → a + o < 2 ^ 32
      → Behind most (Compute FIFTH operation.Add u FIRST ∷ k) k v (a + o)
  added_behind most some k v u a o reads first near =
      let sum : (a + o) % 2 ^ 32 ≡ a + o = omega (arith, near) in
      record {
        vars = put v FIFTH (a + o);
        holds = put_here v FIFTH (a + o) near;
        same = same_put v FIFTH (a + o) (omega arith) (omega arith);
        steps = 1;
        few = some;
        runs = subst (λ n. Runs x.live (all_procs x) 1
            (at (within x.table x.blocks g) g.memory (Compute FIFTH operation.Add u FIRST ∷ k) v g.words)
            (at (within x.table x.blocks g) g.memory k (put v FIFTH n) g.words)) sum
            (run_compute x.live (all_procs x) (within x.table x.blocks g) g.memory k v g.words FIFTH operation.Add u FIRST reads first);
      }

  pointed_behind : (k : List WordInstr) (home : Home) (v : Vars) (a o : ℕ) → v FIRST ≡ Some o → Points g.call.site.base v home a → a + o < 2 ^ 32
      → Behind 2 (address SECOND home ∷ Compute FIFTH operation.Add SECOND FIRST ∷ k) k v (a + o)
  pointed_behind k home v a o first points near =
      let r = added_behind 1 (omega arith) k (put v SECOND a) SECOND a o (got a (omega (arith, near)))
      (put_other v SECOND a FIRST (λ e. absurd (omega (arith, e))) ∙ first) near in
      record {
        vars = r.vars;
        holds = r.holds;
        same = same_more v (put v SECOND a) r.vars (same_second v a) r.same;
        steps = 1 + r.steps;
        few = (let f = r.few in omega (arith, f));
        runs = then_runs x.live (all_procs x)
            (address_runs x.law x.live (all_procs x) (within x.table x.blocks g) refl g.words g.memory (Compute FIFTH operation.Add SECOND FIRST ∷ k) v
            SECOND home a points) r.runs;
      }

  home_behind : (k : List WordInstr) (home : Home) (v : Vars) (a o : ℕ) → AllSame g.call.vars v → v FIRST ≡ Some o → IsHigh home
      → Points g.call.site.base g.call.vars home a → a + o < 2 ^ 32 → Behind 2 (behind_code FIFTH home k) k v (a + o)
  home_behind k (Variable u) v a o same first up points near = added_behind 2 (omega arith) k v u a o (same.others u up ∙ points) first near
  home_behind k (Placed n) v a o same first up points near = pointed_behind k (Placed n) v a o first points near
  home_behind k (Static n) v a o same first up points near = pointed_behind k (Static n) v a o first points near

  -- an element by its index
  pub element_found : (k : List WordInstr) (home : Home) (a i each u : ℕ) → OWN_FROM ≤ u → g.call.vars u ≡ Some i → IsHigh home
      → Points g.call.site.base g.call.vars home a → a + i * each < 2 ^ 32 → each < 2 ^ 32
      → InFifth (element_code FIFTH home u each k) k (a + i * each)
  element_found k home a i each u high_index reads up points near small =
      let w1 : Vars = put g.call.vars FIRST each in
      let w2 : Vars = put w1 FIRST (low_product i each) in
      let l2 : List WordInstr = behind_code FIFTH home k in
      let l1 : List WordInstr = Compute FIRST operation.Multiply u FIRST ∷ l2 in
      let product : low_product i each ≡ i * each = omega (arith, near) in
      let same2 : AllSame g.call.vars w2 = same_more g.call.vars w1 w2 (same_first g.call.vars each) (same_first w1 (low_product i each)) in
      let i1 : w1 u ≡ Some i = put_low g.call.vars FIRST each u (omega arith) high_index ∙ reads in
      let r = home_behind k home w2 a (i * each) same2 (got (low_product i each) (omega (arith, near, product)) ∙ ap Some product) up points near in
      record {
        vars = r.vars;
        holds = r.holds;
        same = same_more g.call.vars w2 r.vars same2 r.same;
        steps = 2 + r.steps;
        few = (let f = r.few in omega (arith, f));
        runs = then_runs x.live (all_procs x) (then_runs x.live (all_procs x)
            (run_constant x.live (all_procs x) (within x.table x.blocks g) g.memory l1 g.call.vars g.words FIRST each)
            (run_compute x.live (all_procs x) (within x.table x.blocks g) g.memory l2 w1 g.words FIRST operation.Multiply u FIRST i1 (got each small))) r.runs;
      }
