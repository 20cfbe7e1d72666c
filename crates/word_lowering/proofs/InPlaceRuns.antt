-- A character behind a text: where the text's block has room for one more it is put there in place, and else control comes to the lines for all else.
use Rattle.std.proofs.Common.{◌≡◌, ◌⊎◌, inl, inr, ℕ, ◌+◌, ◌-◌, ◌%◌, ◌^◌, ◌<◌, ◌≤◌, List, ◌∷◌, length, Option, Some, None, Ok, true, false, not}
use Rattle.std.proofs.Common.{refl, sym, ap, subst, ◌∙◌, arith}
use Rattle.std.proofs.lemmas.Bool.{cases_lt, le-ltb, lt-ltb}
use Rattle.nim_types.specs.declared.blocks.TheConstants.{HEADER_BYTES}
use Rattle.rv32_isa.specs.declared.micro_op.Size.TheVariants.{Byte, Word as whole}
use Rattle.rv32_isa.specs.Machine.{Lives}
use Rattle.word_code.specs.declared.word.Test.TheVariants as test
use Rattle.word_code.specs.declared.word.WordInstr.{WordInstr}
use Rattle.word_code.specs.declared.word.WordInstr.TheVariants.{Branch, Compute, Constant, Jump, Label, Load, Store, Sum}
use Rattle.word_code.specs.declared.word.WordOperation.TheVariants as operation
use Rattle.word_code.specs.declared.word.WordProc.{WordProc}
use Rattle.word_code.specs.Memory.{Memory, own_data_at}
use Rattle.word_code.specs.Words.{Vars, computed, from_label, holds, put}
use Rattle.word_code.proofs.ForCallers.{MemoryLaw, Sized, Runs, Within, at, then_runs, got, got_sum, run_compute, run_constant, run_jump, run_label, run_load}
use Rattle.word_code.proofs.ForCallers.{run_off, run_past, run_store, run_sum}
use Rattle.heap_memory.specs.declared.numbers.TheConstants.{CONTENTS_KIND}
use Rattle.heap_memory.specs.HeapBlocks.{first_word, size_at}
use Rattle.heap_memory.specs.HeapUse.{IsThere}
use Rattle.heap_memory.specs.GrowRoutine.{Owned, Growing, IsPresent, MayGrow, place_of}
use Rattle.heap_memory.specs.HandleRoutines.{HasHandle, MayHave}
use Rattle.heap_memory.proofs.ForCallers.{byte_may, byte_sized, header_read, is_there, open_low, place_may, place_small, size_by_header, size_most, still_has}
use Rattle.heap_memory.proofs.ForCallers.{with_byte, with_character, with_long}
use Rattle.word_lowering.specs.declared.homes.TheConstants.{FIFTH, FIRST, FOURTH, OWN_FROM, SECOND, THIRD}
use Rattle.word_lowering.specs.declared.homes.Home.{Home as Place}
use Rattle.word_lowering.specs.OwnedCode.{header_less, in_place_code, in_place_lines}
use Rattle.word_lowering.proofs.Moves.{address_runs, same_first, same_more, same_second, same_third}
use Rattle.word_lowering.proofs.OrdinalRuns.{AllSame, put_low}
use Rattle.word_lowering.proofs.RoutinesCalled.{IsFirst}
use Rattle.word_lowering.proofs.SequenceRowRuns.{same_fifth}
use Rattle.word_lowering.proofs.TextRowRuns.{IsAt}

same_fourth : (v : Vars) (n : ℕ) → AllSame v (put v FOURTH n)
same_fourth v n = record { others = λ u high. put_low v FOURTH n u (omega arith) high; left = refl }

module _ (law : MemoryLaw) (live : Lives) (procs : List WordProc) (c : Within) (from_first : IsFirst c) (m : Memory) (sized : Sized m) (v words : Vars)
    (label : ℕ) (home : Place) (a : ℕ) (at_home : IsAt c.base v home a) (letter from : ℕ) (small : letter < 256) (up : OWN_FROM ≤ from)
    (letter_is : v from ≡ Some letter) (u : Growing) (may : MayGrow own_data_at u m) (wanted : u.wanted ≡ u.kept + 1) (has : MayHave m a)
    (handle : HasHandle m a u.kept (place_of u.present)) (slow next : List WordInstr) (there : from_label label c.proc.lines ≡ Some (Label label ∷ slow))
    (behind : from_label (label + 2) c.proc.lines ≡ Some (Label (label + 2) ∷ next))
  where
    abbrev n : ℕ
    n = u.kept

    abbrev place : ℕ
    place = place_of u.present

    abbrev pub here : List WordInstr
    here = in_place_code label home from slow

    -- to the lines for all else
    pub record GoesOff : Type 0 where
      pub vars : Vars
      pub same : AllSame v vars
      pub count : ℕ
      pub few : count ≤ 12
      pub runs : Runs live procs count (at c m here v words) (at c m slow vars words)

    -- or to those behind
    pub record IsPutThere : Type 0 where
      pub block : Owned
      pub present : u.present ≡ Some block
      pub room : n < length block.block.payload
      pub vars : Vars
      pub same : AllSame v vars
      pub runs : Runs live procs 19 (at c m here v words)
          (at c (with_character law own_data_at a letter small u block present m sized may wanted room has) next vars words)

    -- ---- its place is read

    abbrev k16 : List WordInstr
    k16 = Sum FIRST FIRST 4 ∷ Store FIRST THIRD whole ∷ Jump (label + 2) ∷ Label label ∷ slow

    abbrev k14 : List WordInstr
    k14 = Sum SECOND SECOND 1 ∷ Store FIRST SECOND whole ∷ k16

    abbrev k12 : List WordInstr
    k12 = Compute FIFTH operation.Add THIRD SECOND ∷ Store FIFTH from Byte ∷ k14

    abbrev k11 : List WordInstr
    k11 = Branch test.NotBelow FIFTH FOURTH label ∷ k12

    abbrev k10 : List WordInstr
    k10 = Sum FIFTH SECOND HEADER_BYTES ∷ k11

    abbrev k9 : List WordInstr
    k9 = Compute FOURTH operation.ShiftLeft FOURTH FIFTH ∷ k10

    abbrev k8 : List WordInstr
    k8 = Load FIFTH FIFTH whole ∷ k9

    abbrev k7 : List WordInstr
    k7 = Sum FIFTH THIRD header_less ∷ k8

    abbrev k6 : List WordInstr
    k6 = Branch test.Below THIRD FOURTH label ∷ k7

    abbrev k5 : List WordInstr
    k5 = Constant FOURTH 8 ∷ k6

    abbrev k4 : List WordInstr
    k4 = Load THIRD THIRD whole ∷ k5

    abbrev k3 : List WordInstr
    k3 = Sum THIRD FIRST 4 ∷ k4

    abbrev v1 : Vars
    v1 = put v FIRST a

    abbrev v2 : Vars
    v2 = put v1 SECOND n

    abbrev v3 : Vars
    v3 = put v2 THIRD (a + 4)

    abbrev v4 : Vars
    v4 = put v3 THIRD place

    abbrev v5 : Vars
    v5 = put v4 FOURTH 8

    low : a + 8 < 2 ^ 32
    low = let l = open_low m sized (a + 4) has.1 in omega (arith, l)

    n_small : n < 2 ^ 32
    n_small = let w = may.word in omega (arith, w, wanted)

    same5 : AllSame v v5
    same5 =
        same_more v v1 v5 (same_first v a) (same_more v1 v2 v5 (same_second v1 n) (same_more v2 v3 v5 (same_third v2 (a + 4))
        (same_more v3 v4 v5 (same_third v3 place) (same_fourth v4 8))))

    to_test : Runs live procs 5 (at c m here v words) (at c m k6 v5 words)
    to_test =
        then_runs live procs (address_runs law live procs c from_first words m (in_place_lines label from slow) v FIRST home a at_home.points)
        (then_runs live procs (run_load live procs c m k3 v1 words SECOND FIRST whole (got a at_home.small) handle.long) (then_runs live procs
        (run_sum live procs c m k4 v2 words THIRD FIRST 4 (got a at_home.small)) (then_runs live procs
        (run_load live procs c m k5 v3 words THIRD THIRD whole (got (a + 4) (omega (arith, low))) handle.there)
        (run_constant live procs c m k6 v4 words FOURTH 8))))

    -- ---- there is no block

    no_block : place ≡ 0 → GoesOff
    no_block zero = record {
      vars = v5;
      same = same5;
      count = 7;
      few = omega arith;
      runs = then_runs live procs to_test (then_runs live procs
          (run_off live procs c m k7 v5 words test.Below THIRD FOURTH label (Label label ∷ slow) (got place (omega (arith, zero))) refl
          (lt-ltb place 8 (omega (arith, zero))) there)
          (run_label live procs c m slow v5 words label));
    }

    -- ---- there is one

    module _ (o : Owned) (some : u.present ≡ Some o) where
      is : IsPresent u.stands n (Some o)
      is = subst (IsPresent u.stands n) some may.present

      block_there : IsThere m o.block
      block_there = is_there own_data_at u.classes u.stands m may.heap o.identity o.block is.0 sized

      place_is : place ≡ o.block.place
      place_is = ap place_of some

      small_place : place < 2 ^ 32
      small_place = let p = place_is in let high = block_there.high in let most = sized.heap_most in omega (arith, p, high, most)

      abbrev size : ℕ
      size = size_at o.block.class

      abbrev first : ℕ
      first = first_word CONTENTS_KIND o.block.class

      abbrev v6 : Vars
      v6 = put v5 FIFTH (place + header_less)

      abbrev v7 : Vars
      v7 = put v6 FIFTH first

      abbrev v8 : Vars
      v8 = put v7 FOURTH (computed operation.ShiftLeft 8 first)

      abbrev v9 : Vars
      v9 = put v8 FIFTH (n + HEADER_BYTES)

      same9 : AllSame v v9
      same9 =
          same_more v v5 v9 same5 (same_more v5 v6 v9 (same_fifth v5 (place + header_less)) (same_more v6 v7 v9 (same_fifth v6 first)
          (same_more v7 v8 v9 (same_fourth v7 (computed operation.ShiftLeft 8 first)) (same_fifth v8 (n + HEADER_BYTES)))))

      size_small : size ≤ 33554432
      size_small = let s = block_there.sized in size_most o.block.class (omega (arith, s))

      fourth_is : v9 FOURTH ≡ Some size
      fourth_is =
          let s = block_there.sized in
          let most = size_small in
          ap (λ i. Some (i % 2 ^ 32)) (size_by_header o.block.class (omega (arith, s))) ∙ got size (omega (arith, most))

      few : n + HEADER_BYTES ≤ size
      few = let f = is.3 in let w = block_there.whole in omega (arith, f, w)

      fifth_is : v9 FIFTH ≡ Some (n + HEADER_BYTES)
      fifth_is = let f = few in let most = size_small in got (n + HEADER_BYTES) (omega (arith, f, most))

      to_second : Runs live procs 10 (at c m here v words) (at c m k11 v9 words)
      to_second =
          let p = place_is in
          let low_place = block_there.low in
          let near = small_place in
          let s = block_there.sized in
          let past : holds test.Below place 8 ≡ false = le-ltb place 8 (omega (arith, p, low_place)) in
          let head : ℕ = o.block.place - 8 in
          let head_is : head + 8 ≡ o.block.place = omega (arith, low_place) in
          let header : v6 FIFTH ≡ Some head = ap Some (omega (arith, p, low_place, near)) in
          let first_is : v7 FIFTH ≡ Some first = got first (omega (arith, s)) in
          let read = header_read own_data_at u.classes u.stands m may.heap o.identity o.block is.0 sized head head_is
          ∙ ap (λ k. Ok (first_word k o.block.class)) is.1 in
          then_runs live procs to_test (then_runs live procs
          (run_past live procs c m k7 v5 words test.Below THIRD FOURTH label (got place near) refl past) (then_runs live procs
          (run_sum live procs c m k8 v5 words FIFTH THIRD header_less (got place near)) (then_runs live procs
          (run_load live procs c m k9 v6 words FIFTH FIFTH whole header read) (then_runs live procs
          (run_compute live procs c m k10 v7 words FOURTH operation.ShiftLeft FOURTH FIFTH refl first_is)
          (run_sum live procs c m k11 v8 words FIFTH SECOND HEADER_BYTES (got n n_small))))))

      -- ---- it is full

      full : length o.block.payload ≤ n → GoesOff
      full all =
          let w = block_there.whole in
          let off : holds test.NotBelow (n + HEADER_BYTES) size ≡ true = ap not (le-ltb (n + HEADER_BYTES) size (omega (arith, w, all))) in
          record {
            vars = v9;
            same = same9;
            count = 12;
            few = omega arith;
            runs = then_runs live procs to_second (then_runs live procs
                (run_off live procs c m k12 v9 words test.NotBelow FIFTH FOURTH label (Label label ∷ slow) fifth_is fourth_is off there)
                (run_label live procs c m slow v9 words label));
          }

      -- ---- there is room

      module _ (room : n < length o.block.payload) where
        abbrev m1 : Memory
        m1 = with_byte law own_data_at a letter small u o some m sized may wanted room has

        abbrev m3 : Memory
        m3 = with_character law own_data_at a letter small u o some m sized may wanted room has

        abbrev j2 : List WordInstr
        j2 = Jump (label + 2) ∷ Label label ∷ slow

        abbrev j3 : List WordInstr
        j3 = Store FIRST THIRD whole ∷ j2

        abbrev j5 : List WordInstr
        j5 = Store FIRST SECOND whole ∷ k16

        abbrev j6 : List WordInstr
        j6 = Store FIFTH from Byte ∷ k14

        abbrev m2 : Memory
        m2 = with_long law m1 (byte_sized law own_data_at a letter small u o some m sized may wanted room has) a u.wanted o.block.place
            (still_has law own_data_at a letter small u o some m sized may wanted room has) may.word
            (place_small law own_data_at a letter small u o some m sized may wanted room has)

        abbrev v10 : Vars
        v10 = put v9 FIFTH (computed operation.Add place n)

        abbrev v11 : Vars
        v11 = put v10 SECOND (n + 1)

        abbrev v12 : Vars
        v12 = put v11 FIRST (a + 4)

        same12 : AllSame v v12
        same12 =
            same_more v v9 v12 same9 (same_more v9 v10 v12 (same_fifth v9 (computed operation.Add place n))
            (same_more v10 v11 v12 (same_second v10 (n + 1)) (same_first v11 (a + 4))))

        put_there : IsPutThere
        put_there =
            let p = place_is in
            let w = block_there.whole in
            let high = block_there.high in
            let most = sized.heap_most in
            let near = small_place in
            let can = still_has law own_data_at a letter small u o some m sized may wanted room has in
            let past : holds test.NotBelow (n + HEADER_BYTES) size ≡ false
            = ap not (lt-ltb (n + HEADER_BYTES) size (omega (arith, w, room))) in
            let at_byte : v10 FIFTH ≡ Some (o.block.place + n)
            = got_sum place n (omega (arith, p, high, most, room)) ∙ ap (λ i. Some (i + n)) p in
            let letter_then : v10 from ≡ Some letter
            = put_low v9 FIFTH (computed operation.Add place n) from (omega arith) up ∙ same9.others from up ∙ letter_is in
            let long_is : v11 SECOND ≡ Some u.wanted = got (n + 1) (let l = may.word in omega (arith, l, wanted)) ∙ ap Some (sym wanted) in
            let third_is : v12 THIRD ≡ Some o.block.place = got place near ∙ ap Some p in
            record {
              block = o;
              present = some;
              room = room;
              vars = v12;
              same = same12;
              runs = then_runs live procs to_second (then_runs live procs
                  (run_past live procs c m k12 v9 words test.NotBelow FIFTH FOURTH label fifth_is fourth_is past) (then_runs live procs
                  (run_compute live procs c m j6 v9 words FIFTH operation.Add THIRD SECOND (got place near) (got n n_small)) (then_runs live procs
                  (run_store live procs c m k14 v10 words FIFTH from Byte at_byte letter_then
                  (byte_may law own_data_at a letter small u o some m sized may wanted room has)) (then_runs live procs
                  (run_sum live procs c m1 j5 v10 words SECOND SECOND 1 (got n n_small)) (then_runs live procs
                  (run_store live procs c m1 k16 v11 words FIRST SECOND whole (got a at_home.small) long_is can.0) (then_runs live procs
                  (run_sum live procs c m2 j3 v11 words FIRST FIRST 4 (got a at_home.small)) (then_runs live procs
                  (run_store live procs c m2 j2 v12 words FIRST THIRD whole (got (a + 4) (omega (arith, low))) third_is
                  (place_may law m1 (byte_sized law own_data_at a letter small u o some m sized may wanted room has) a u.wanted o.block.place can may.word
                  (place_small law own_data_at a letter small u o some m sized may wanted room has))) (then_runs live procs
                  (run_jump live procs c m3 (Label label ∷ slow) v12 words (label + 2) (Label (label + 2) ∷ next) behind)
                  (run_label live procs c m3 next v12 words (label + 2))))))))));
            }

    -- ---- either

    pub put_or_off : IsPutThere ⊎ GoesOff
    put_or_off = by u.present refl
      where
        by : (p : Option Owned) → u.present ≡ p → IsPutThere ⊎ GoesOff
        by None e = inr (no_block (ap place_of e))
        by (Some o) e = elim (cases_lt n (length o.block.payload)) [ inl room ↦ inl (put_there o e room) | inr all ↦ inr (full o e all) ]
