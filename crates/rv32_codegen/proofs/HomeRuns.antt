-- What the pieces of label code do that bring words from their homes and put them there.
use Rattle.std.proofs.Common.{◌≡◌, ◌≢◌, ℕ, ◌+◌, ◌*◌, ◌/◌, ◌%◌, ◌^◌, ◌<◌, ◌≤◌, List, get_or}
use Rattle.std.proofs.Common.{refl, ap, subst, ◌∙◌, arith}
use Rattle.arc_base.proofs.ForCallers.{steps_none}
use Rattle.rv32_isa.specs.declared.instr.Instr.TheVariants.{Addi}
use Rattle.rv32_isa.specs.declared.label.LabelLine.{LabelLine}
use Rattle.rv32_isa.specs.Values.{added}
use Rattle.rv32_isa.specs.Steps.{signed12}
use Rattle.rv32_isa.specs.Machine.{Lives}
use Rattle.rv32_isa.specs.Labels.{Addresses}
use Rattle.rv32_isa.specs.LabelsMeaning.{step}
use Rattle.rv32_logic.specs.Registers.{put}
use Rattle.rv32_logic.proofs.ForCallers.{plain_address, put_same}
use Rattle.word_code.specs.Memory.{Memory}
use Rattle.reg_scan.specs.declared.homes.Home.{Home}
use Rattle.reg_scan.specs.declared.homes.Home.TheVariants.{Reg, Frame}
use Rattle.rv32_codegen.specs.Code.{does, seat, bring, move, settle, give}
use Rattle.rv32_codegen.proofs.StackWords.{words}
use Rattle.rv32_codegen.proofs.Machine.{run_at, Fits, word_place, Regs, put_other, put_kept, Quiet, Goes_in, goes_within, writes}
use Rattle.rv32_codegen.proofs.PieceRuns.{Gets, put_gets, Leads, load_goes, save_goes}
use Rattle.rv32_codegen.proofs.Frees.{free_small, free_above, free_apart, free_kept, kept_apart}
use Rattle.rv32_codegen.proofs.Frames.{IsThere, word_at, saved, HasWord, Alike, Alike_but}

-- a word of the running call's frame
pub place_is : (m : Memory) (ws : List ℕ) (j k offset : ℕ) → Fits m ws → 4 * k ≡ offset → j + k < words ws →
    added (word_place m j) offset ≡ word_place m (j + k)
place_is m ws j k offset fits e lt = omega (arith, fits.stack_most, e, lt)

-- ---- where words are used

pub seat_above : (n other : ℕ) (home : Home) → IsThere n home → 4 < other → 4 < seat other home
seat_above n other (Reg number) h gt = free_above number h
seat_above n other (Frame at) h gt = gt

pub seat_small : (n other : ℕ) (home : Home) → IsThere n home → other < 32 → seat other home < 32
seat_small n other (Reg number) h lt = free_small number h
seat_small n other (Frame at) h lt = lt

-- x5 and x6 aren't taken for one another
pub seats_apart : (n : ℕ) (home : Home) → IsThere n home → seat 5 home ≢ 6
seats_apart n (Reg number) h = free_apart number 6 h refl
seats_apart n (Frame at) h = λ e. omega (arith, e)

pub seats_before : (n : ℕ) (home : Home) → IsThere n home → seat 6 home ≢ 5
seats_before n (Reg number) h = free_apart number 5 h refl
seats_before n (Frame at) h = λ e. omega (arith, e)

-- nor is x7
pub seats_past : (n : ℕ) (home : Home) → IsThere n home → seat 5 home ≢ 7
seats_past n (Reg number) h = free_apart number 7 h refl
seats_past n (Frame at) h = λ e. omega (arith, e)

-- a register got the word, others than this one are as they were
pub record Brought (regs new : List ℕ) (other : ℕ) (home : Home) (value frame places : ℕ) : Type 0 where
  pub kept : Regs new frame places
  pub same : get_or new (seat other home) 0 ≡ value
  pub others : (r : ℕ) → r ≢ other → get_or new r 0 ≡ get_or regs r 0

-- a home got the word, free registers beside it and x1 are as they were
pub record Settled (regs new : List ℕ) (home : Home) (value frame places : ℕ) : Type 0 where
  pub kept : Regs new frame places
  pub has : HasWord new home value
  pub alike : Alike_but (seat 5 home) regs new

module _ (live : Lives) (whole : List LabelLine) (at : Addresses) (m : Memory) (ws input : List ℕ) (j n places : ℕ) (rest : List LabelLine)
    (quiet : Quiet rest) (fits : Fits m ws) (inside : j + n ≤ words ws) where
  -- registers, and where the frame begins
  abbrev frame : ℕ
  frame = word_place m j

  far : (offset k : ℕ) → 4 * k ≡ offset → j + k < words ws → offset < 2 ^ 32
  far offset k e lt = omega (arith, fits.stack_most, e, lt)

  pub home_moves : (old : List ℕ) (rd a : ℕ) (home : Home) → IsThere n home → 4 < rd → rd < 32 → word_at old ws j home ≡ a → a < 2 ^ 32 →
      Regs old frame places → Leads live whole at m ws input 1 3 old (move rd home) rest (λ new. Gets old new rd a frame places)
  home_moves old rd a (Reg number) h gt lt e small kept =
      let v = added (get_or old number 0) (signed12 0) in
      let v_is : v ≡ a = plain_address (get_or old number 0) a e small in
      let one = writes live whole at m ws input old (Addi rd number 0) rd v rest quiet refl in (
        put old rd v,
        goes_within live whole at 1 1 1 3 _ _ (omega arith) (omega arith) one,
        subst (λ x. Gets old (put old rd v) rd x frame places) v_is (put_gets old rd v frame places gt lt kept),
      )
  home_moves old rd a (Frame offset) h gt lt e small kept =
      let within : j + offset / 4 < words ws = omega (arith, h.1.1, inside) in
      load_goes live whole at m ws input old rd offset (j + offset / 4) a frame places rest quiet (far offset (offset / 4) h.0 within)
      (place_is m ws j (offset / 4) offset fits h.0 within) within fits kept gt lt e small

  pub home_brings : (old : List ℕ) (other a : ℕ) (home : Home) → IsThere n home → 4 < other → other < 32 → word_at old ws j home ≡ a →
      a < 2 ^ 32 → Regs old frame places →
      Leads live whole at m ws input 0 3 old (bring other home) rest (λ new. Brought old new other home a frame places)
  home_brings old other a (Reg number) h gt lt e small kept =
      (old, steps_none (step live whole at) (run_at old m ws input rest) 3, record { kept = kept; same = e; others = λ r _. refl })
  home_brings old other a (Frame offset) h gt lt e small kept =
      let x = home_moves old other a (Frame offset) h gt lt e small kept in
      (x.0, goes_within live whole at 1 0 3 3 _ _ (omega arith) (omega arith) x.1, record { kept = x.2.kept; same = x.2.same; others = x.2.other })

  -- the word is written, where its home is in the frame
  abbrev pub Lands : (least most : ℕ) (regs : List ℕ) → List LabelLine → Home → (value : ℕ) → Type 0
  Lands least most regs code home value =
      (new : List ℕ) × Goes_in live whole at least most (run_at regs m ws input code) (run_at new m (saved ws j home value) input rest)
      × Settled regs new home value frame places

  pub home_gives : (regs : List ℕ) (rs w : ℕ) (home : Home) → IsThere n home → rs < 32 → rs ≢ 7 → get_or regs rs 0 ≡ w →
      Regs regs frame places → Lands 1 3 regs (does (give rs home) rest) home (w % 2 ^ 32)
  home_gives regs rs w (Reg number) h lt ne e kept =
      let v = added (get_or regs rs 0) (signed12 0) in
      let v_is : v ≡ w % 2 ^ 32 = ap (λ x. added x (signed12 0)) e ∙ (let g : (w + 0) % 2 ^ 32 ≡ w % 2 ^ 32 = omega arith in g) in
      let one = writes live whole at m ws input regs (Addi number rs 0) number v rest quiet refl in
      let above = free_above number h in (
        put regs number v,
        goes_within live whole at 1 1 1 3 _ _ (omega arith) (omega arith) one,
        record {
          kept = put_kept regs number v frame places above kept;
          has = put_same regs number v kept.good (omega (arith, above)) (free_small number h) ∙ v_is;
          alike = λ r kept apart. put_other regs number r v apart;
        },
      )
  home_gives regs rs w (Frame offset) h lt ne e kept =
      let within : j + offset / 4 < words ws = omega (arith, h.1.1, inside) in
      let x = save_goes live whole at m ws input regs rs offset (j + offset / 4) w frame places rest quiet (far offset (offset / 4) h.0 within)
      (place_is m ws j (offset / 4) offset fits h.0 within) within fits kept ne e in
      (x.0, x.1, record { kept = x.2.kept; has = tt; alike = λ r kept apart. x.2.other r (kept_apart r 7 kept refl) })

  pub home_settles : (regs : List ℕ) (w : ℕ) (home : Home) → IsThere n home → get_or regs (seat 5 home) 0 ≡ w → w < 2 ^ 32 →
      Regs regs frame places → Lands 0 3 regs (does (settle home) rest) home w
  home_settles regs w (Reg number) h e small kept =
      (regs, steps_none (step live whole at) (run_at regs m ws input rest) 3, record { kept = kept; has = e; alike = λ r _ _. refl })
  home_settles regs w (Frame offset) h e small kept =
      let x = home_gives regs 5 w (Frame offset) h (omega arith) (λ e. omega (arith, e)) e kept in
      let low : w % 2 ^ 32 ≡ w = omega (arith, small) in
      let y = subst (λ v. Lands 1 3 regs (does (settle (Frame offset)) rest) (Frame offset) v) low x in
      (y.0, goes_within live whole at 1 0 3 3 _ _ (omega arith) (omega arith) y.1, y.2)

-- ---- registers that lines keep

pub alike_refl : (regs : List ℕ) → Alike regs regs
alike_refl regs r kept = refl

pub word_but : (regs new ws : List ℕ) (j n : ℕ) (home other : Home) → IsThere n other → other ≢ home → Alike_but (seat 5 home) regs new →
    word_at new ws j other ≡ word_at regs ws j other
word_but regs new ws j n (Reg number) (Reg r) h ne same = same r (free_kept r h) (λ e. ne (ap Reg e))
word_but regs new ws j n (Frame at) (Reg r) h ne same = same r (free_kept r h) (free_apart r 5 h refl)
word_but regs new ws j n home (Frame from) h ne same = refl
