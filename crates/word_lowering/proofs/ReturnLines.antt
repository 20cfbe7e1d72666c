-- A call returns: what its caller gets is followed.
use Rattle.std.proofs.Common.{◌≡◌, ℕ, ◌+◌, ◌^◌, ◌<◌, ◌≤◌, List, ◌∷◌, map, Some, true, false, refl, sym, ap, ap₂, subst}
use Rattle.std.proofs.Common.{◌∙◌, arith}
use Rattle.rv32_isa.specs.declared.micro_op.Size.TheVariants.{Word as whole}
use Rattle.nim_meaning.specs.Values.{Value, Number, bytes}
use Rattle.flat_code.specs.declared.block.BlockLine.{BlockLine}
use Rattle.word_code.specs.declared.word.WordInstr.{WordInstr}
use Rattle.word_code.specs.declared.word.WordInstr.TheVariants.{Return, Load}
use Rattle.word_code.specs.Words.{Vars, no_words, put, WordState, settled, using, Returns, step}
use Rattle.word_lowering.proofs.ShapeFacts.{never}
use Rattle.word_code.proofs.ForCallers.{got, Runs, Within, at, one, run_load, then_runs}
use Rattle.word_lowering.specs.declared.homes.Home.{Home}
use Rattle.word_lowering.specs.declared.homes.Housed.{Housed}
use Rattle.word_lowering.specs.declared.homes.TheConstants.{FIRST, LEFT, OWN_FROM}
use Rattle.word_lowering.specs.Spots.{spot_of, address}
use Rattle.word_lowering.specs.LineCode.{back_code, word_back}
use Rattle.word_lowering.proofs.InMemory.{IsAt, HasWords}
use Rattle.word_lowering.proofs.Moves.{is_single, single_word, address_runs}
use Rattle.word_lowering.proofs.Sites.{word_of, Site, IsBody}
use Rattle.word_lowering.proofs.SitesApart.{variable_high}
use Rattle.word_lowering.proofs.Scenes.{Points, Name, IsThere, HasVariable}
use Rattle.word_lowering.proofs.Related.{Both, Waits, within, high, code_behind, frame_of, awaits_for, left_for}
use Rattle.word_lowering.proofs.Lines.{Basis, all_procs, starts, IsGood, all_sites}
use Rattle.word_lowering.proofs.Sources.{Source, held_in, letter_at, lies_at}
use Rattle.word_lowering.proofs.ReadFacts.{Read}
use Rattle.word_lowering.proofs.Returned.{called, memory_left}

-- variables of places aren't those for what comes between
pub place_high : (x : Basis) (s : Site) → IsBody x.table x.blocks s.body → (f : Name) (u : ℕ) → IsThere s f → HasVariable s f u → OWN_FROM ≤ u
place_high x s b f u there home = variable_high x.table x.blocks s f u b there home

module _ (x : Basis) (h : Both) (w : Waits) (ws : List Waits) (line : BlockLine) (rest : List BlockLine)
    (y : IsGood x (starts (called x h w ws line rest) line rest)) where
  abbrev g : Both
  g = called x h w ws line rest

  -- the call of the caller, as word code has it
  abbrev pub after : Within
  after = record {
    units = h.units;
    input = h.input;
    proc = word_of x.table x.blocks w.call.site.body;
    base = w.call.site.base;
    awaits = awaits_for x.table x.blocks w.call.site.body w.to;
    callers = map (frame_of x.table x.blocks) ws;
  }

  abbrev pub lines_left : List WordInstr
  lines_left = left_for x.table x.blocks w.call.site.body w.to w.proc (code_behind x.table x.blocks w.call.site.body w.rest)

  abbrev pub vars_back : ℕ → Vars
  vars_back a = put w.call.vars (awaits_for x.table x.blocks w.call.site.body w.to) a

  run_back : (k : List WordInstr) (vars : Vars) (v a : ℕ) → vars v ≡ Some a
      → Runs x.live (all_procs x) 1 (at (within x.table x.blocks g) h.memory (Return v ∷ k) vars h.words)
      (at after (memory_left x h w ws line rest y) lines_left (vars_back a) no_words)
  run_back k vars v a e =
      let s : WordState = at (within x.table x.blocks g) h.memory (Return v ∷ k) vars h.words in
      one (step x.live (all_procs x)) (λ bytes. ap (λ o. settled x.live (all_procs x) bytes s k (using o (λ b. Returns b))) e)

  -- the caller gets a word, which is the value where that is one word
  pub record HandsBack (v : Value) (lines : List WordInstr) : Type 0 where
    pub handed : ℕ
    pub is : is_single v ≡ true → handed ≡ single_word v
    pub steps : ℕ
    pub some : 0 < steps
    pub few : steps ≤ 3
    pub runs : Runs x.live (all_procs x) steps (at (within x.table x.blocks g) h.memory lines h.call.vars h.words)
        (at after (memory_left x h w ws line rest y) lines_left (vars_back handed) no_words)

  not_start : h.call.site.body.start ≡ false
  not_start = y.linked.1

  left_there : h.call.vars LEFT ≡ Some h.call.site.left
  left_there = y.hold.0.left not_start

  pub hands_nothing : (v : Value) (k : List WordInstr) → is_single v ≡ false → HandsBack v (Return LEFT ∷ k)
  hands_nothing v k no_word = record {
    handed = h.call.site.left;
    is = λ e. never (sym no_word ∙ e);
    steps = 1;
    some = omega arith;
    few = omega arith;
    runs = run_back k h.call.vars LEFT h.call.site.left left_there;
  }

  lies_back : (v : Value) (k : List WordInstr) (home : Home) (b : ℕ) → Points h.call.site.base h.call.vars home b → IsAt h.memory b v
      → b + bytes v < 2 ^ 32 → HasWords v
      → HandsBack v (word_back (is_single v) whole home k)
  lies_back (Number z) k home b points is_at near small =
      let v1 : Vars = put h.call.vars FIRST b in
      let v2 : Vars = put v1 FIRST (single_word (Number z)) in
      let l2 : List WordInstr = Return FIRST ∷ k in
      let l1 : List WordInstr = Load FIRST FIRST whole ∷ l2 in
      let r1 : Runs x.live (all_procs x) 1 (at (within x.table x.blocks g) h.memory (address FIRST home ∷ l1) h.call.vars h.words)
      (at (within x.table x.blocks g) h.memory l1 v1 h.words)
      = address_runs x.law x.live (all_procs x) (within x.table x.blocks g) refl h.words h.memory l1 h.call.vars FIRST home b points in
      let r2 : Runs x.live (all_procs x) 1 (at (within x.table x.blocks g) h.memory l1 v1 h.words)
      (at (within x.table x.blocks g) h.memory l2 v2 h.words)
      = run_load x.live (all_procs x) (within x.table x.blocks g) h.memory l2 v1 h.words FIRST FIRST whole (got b (omega (arith, near))) is_at in
      record {
        handed = single_word (Number z);
        is = λ e. refl;
        steps = 3;
        some = omega arith;
        few = omega arith;
        runs = then_runs x.live (all_procs x) (then_runs x.live (all_procs x) r1 r2)
            (run_back k v2 FIRST (single_word (Number z)) (got (single_word (Number z)) small));
      }
  lies_back v k home b points is_at near small = hands_nothing v k refl

  pub hands_back : (r : Housed) (v : Value) (k : List WordInstr) → Read x g line rest y true r v → HandsBack v (back_code r.is_word (spot_of r) k)
  hands_back r v k read = by read.source
    where
      by : Source x (all_sites x (called x h w ws line rest) line rest y) y.linked h.memory h.call.site.base h.call.vars true r v → HandsBack v
          (back_code r.is_word (spot_of r) k)
      by (held_in u spot may e) = subst (λ p. HandsBack v (back_code r.is_word p k)) (sym spot) (record {
        handed = single_word v;
        is = λ e. refl;
        steps = 1;
        some = omega arith;
        few = omega arith;
        runs = run_back k h.call.vars u (single_word v) e;
      })
      by (lies_at home spot high b points is_at readable is_all) =
          subst (λ l. HandsBack v l) (sym (ap₂ (λ c p. back_code c p k) read.word spot))
          (lies_back v k home b points is_at readable.near read.small)
      by (letter_at home spot high b points is_at near single no_all) = never (sym no_all)
