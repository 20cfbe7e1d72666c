-- How many instructions a word of a frame takes: one where the frame is near, and three at most.
use Rattle.std.proofs.Common.{◌≡◌, ℕ, zero, suc, ◌+◌, ◌*◌, ◌%◌, ◌^◌, ◌≤◌, ◌<◌, Bool, true, List, [], ◌∷◌, length, sym, subst, arith}
use Rattle.std.specs.Prelude.{nat_le, ◌==◌, if◌then◌else◌, slice_get}
use Rattle.std.proofs.lemmas.Bool.{cond_both, cond-true, and_parts, leb-true, lt-ltb}
use Rattle.rv32_isa.specs.declared.instr.Instr.{Instr}
use Rattle.word_code.specs.declared.word.WordProc.{WordProc}
use Rattle.reg_scan.specs.declared.homes.Home.{Home}
use Rattle.reg_scan.specs.declared.homes.Home.TheVariants.{Reg, Frame}
use Rattle.reg_scan.specs.declared.homes.Homes.{Homes}
use Rattle.reg_scan.specs.Homes.{or_none, home_of, IsPlace, IsHomes}
use Rattle.rv32_codegen.specs.Code.{is_near, negative, sum, shift, load, save, bring, move, settle, give}
use Rattle.rv32_codegen.specs.LineBytes.{is_near_proc}
use Rattle.rv32_codegen.proofs.Chunks.{Few, few_sum, few_shift, few_load, few_save}

-- a home is read and written by so many instructions
abbrev pub Within : ℕ → Home → Type 0
Within n (Reg number) = Unit {0}
Within n (Frame at) = ((rd : ℕ) → Few n (load rd at)) × ((rs : ℕ) → Few n (save rs at))

pub record Reaches (n : ℕ) (h : Homes) (p : WordProc) : Type 0 where
  pub some : 1 ≤ n
  pub homes : (v : ℕ) → Within n (home_of h v)
  pub frame_up : Few n (sum 2 2 h.frame)
  pub frame_down : Few n (sum 2 2 (negative h.frame))
  pub room_up : Few n (shift 3 p.room)
  pub room_down : Few n (shift 3 (negative p.room))

-- ---- what is done with a home

pub bring_within : (n other : ℕ) (home : Home) → Within n home → Few n (bring other home)
bring_within n other (Reg number) w = omega arith
bring_within n other (Frame at) w = w.0 other

pub move_within : (n rd : ℕ) (home : Home) → 1 ≤ n → Within n home → Few n (move rd home)
move_within n rd (Reg number) some w = some
move_within n rd (Frame at) some w = w.0 rd

pub settle_within : (n : ℕ) (home : Home) → Within n home → Few n (settle home)
settle_within n (Reg number) w = omega arith
settle_within n (Frame at) w = w.1 5

pub give_within : (n rs : ℕ) (home : Home) → 1 ≤ n → Within n home → Few n (give rs home)
give_within n rs (Reg number) some w = some
give_within n rs (Frame at) some w = w.1 rs

-- ---- any frame

far_home : (home : Home) → Within 3 home
far_home (Reg number) = tt
far_home (Frame at) = (λ rd. few_load rd at, λ rs. few_save rs at)

pub far : (h : Homes) (p : WordProc) → Reaches 3 h p
far h p = record {
  some = omega arith;
  homes = λ v. far_home (home_of h v);
  frame_up = few_sum 2 2 h.frame;
  frame_down = few_sum 2 2 (negative h.frame);
  room_up = few_shift 3 p.room;
  room_down = few_shift 3 (negative p.room);
}

-- ---- a near one

one : (b : Bool) (i : Instr) (is : List Instr) → b ≡ true → Few 1 (if b then i ∷ [] else is)
one b i is e = subst (Few 1) (sym (cond-true b (i ∷ []) is e)) (omega arith)

near_up : (n : ℕ) → n ≤ 2047 → is_near n ≡ true
near_up n few = lt-ltb ((n + 2048) % 2 ^ 32) 4096 (omega (arith, few))

near_down : (n : ℕ) → n ≤ 2047 → is_near (negative n) ≡ true
near_down n few = lt-ltb ((negative n + 2048) % 2 ^ 32) 4096 (omega (arith, few))

near_shift : (n : ℕ) → is_near n ≡ true → Few 1 (shift 3 n)
near_shift n e = cond_both (n == 0) _ _ (Few 1) (λ none. omega arith) (λ some. one (is_near n) _ _ e)

near_at : (at : ℕ) → at ≤ 2047 → Within 1 (Frame at)
near_at at few = (λ rd. one (is_near at) _ _ (near_up at few), λ rs. one (is_near at) _ _ (near_up at few))

near_place : (frame : ℕ) (home : Home) → frame ≤ 2047 → IsPlace frame home → Within 1 home
near_place frame (Reg number) few is = tt
near_place frame (Frame at) few is = near_at at (omega (arith, few, is.1.1))

near_homes : (homes : List Home) → ((v : ℕ) → v < length homes → Within 1 (or_none (slice_get homes v))) → (v : ℕ)
    → Within 1 (or_none (slice_get homes v))
near_homes [] h v = near_at 0 (omega arith)
near_homes (home ∷ homes) h zero = h 0 (omega arith)
near_homes (home ∷ homes) h (suc v) = near_homes homes (λ w lt. h (suc w) (omega (arith, lt))) v

pub near : (h : Homes) (p : WordProc) → IsHomes p h → is_near_proc p ≡ true → Reaches 1 h p
near h p is small = record {
  some = omega arith;
  homes = near_homes h.of (λ v lt. near_place h.frame (home_of h v) frame (is.there v (omega (arith, lt, is.long))));
  frame_up = one (is_near h.frame) _ _ (near_up h.frame frame);
  frame_down = one (is_near (negative h.frame)) _ _ (near_down h.frame frame);
  room_up = near_shift p.room (near_up p.room room);
  room_down = near_shift (negative p.room) (near_down p.room room);
}
  where
    both : (nat_le (4 * suc p.vars) 2047 ≡ true) × (nat_le p.room 2047 ≡ true)
    both = and_parts (nat_le (4 * suc p.vars) 2047) (nat_le p.room 2047) small

    frame : h.frame ≤ 2047
    frame = let few = leb-true (4 * suc p.vars) 2047 both.0 in omega (arith, few, is.most)

    room : p.room ≤ 2047
    room = leb-true p.room 2047 both.1
