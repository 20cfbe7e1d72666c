-- A character comes behind the text of a block that has room for it, and the handle gets its length: as if a growth had put it.
use Rattle.std.proofs.Common.{◌≡◌, ℕ, ◌+◌, ◌%◌, ◌^◌, ◌<◌, ◌≤◌, [], ◌∷◌, ◌++◌, List, length, Some, true, refl, sym, ap, subst, ◌∙◌, arith}
use Rattle.std.specs.Prelude.{◌==◌}
use Rattle.std.proofs.lemmas.Bool.{and_from, eq-eqb, le-leb}
use Rattle.rv32_isa.specs.declared.micro_op.Size.TheVariants.{Byte}
use Rattle.rv32_isa.specs.Steps.{low_bytes}
use Rattle.rv32_isa.specs.Words.{word_bytes}
use Rattle.rv32_isa.specs.State.{writable}
use Rattle.word_code.specs.Memory.{Memory, as_state, bytes_at, may_put, with_number}
use Rattle.word_code.specs.RoutineTable.{IsRewritten}
use Rattle.word_code.proofs.ForCallers.{MemoryLaw, Sized, store_here, store_rewritten, store_sized}
use Rattle.heap_memory.specs.GrowRoutine.{Owned, Growing, place_of, room_of, holds_it, IsPresent, MayGrow, kept_of}
use Rattle.heap_memory.specs.AppendRoutine.{IsFilled, block_then}
use Rattle.heap_memory.specs.HandleRoutines.{MayHave, Putting, AreContentsPut}
use Rattle.heap_memory.specs.HeapUse.{IsThere}
use Rattle.heap_memory.proofs.HeapUses.{is_there}
use Rattle.heap_memory.proofs.Fills.{Filled, fills, kept_length, part_open, stays_filled}
use Rattle.heap_memory.proofs.HandleWords.{data_more, data_same, handle_put, may_still, with_handle}

one_byte : (n : ℕ) → n < 256 → low_bytes Byte n ≡ n ∷ []
unfolding word_bytes
one_byte n small = let e : n % 256 ≡ n = omega (arith, small) in ap (λ b. b ∷ []) e

module _ (law : MemoryLaw) (at to c : ℕ) (small : c < 256) (u : Growing) (o : Owned) (some : u.present ≡ Some o) (m : Memory) (sized : Sized m)
    (may : MayGrow at u m) (wanted : u.wanted ≡ u.kept + 1) (room : u.kept < length o.block.payload) (has : MayHave m to)
  where
    abbrev place : ℕ
    place = o.block.place

    abbrev text : List ℕ
    text = kept_of u.present u.kept

    stood : u.stands o.identity ≡ Some o.block
    stood = (subst (IsPresent u.stands u.kept) some may.present).0

    there : IsThere m o.block
    there = is_there at u.classes u.stands m may.heap o.identity o.block stood sized

    pub byte_may : may_put m (place + u.kept) Byte ≡ true
    byte_may =
        and_from ((place + u.kept) % 1 == 0) (writable (as_state m) (place + u.kept) 1) (eq-eqb ((place + u.kept) % 1) 0 (omega arith))
        (part_open m sized o.block there u.kept 1 (omega (arith, room)))

    abbrev pub with_byte : Memory
    with_byte = with_number m (place + u.kept) Byte c

    written : IsRewritten m with_byte (place + u.kept) 1
    written = store_rewritten law m (place + u.kept) Byte c sized byte_may

    pub byte_sized : Sized with_byte
    byte_sized = store_sized law m (place + u.kept) Byte c sized byte_may

    pub still_has : MayHave with_byte to
    still_has = may_still law m with_byte to written.sizes has

    pub place_small : place < 2 ^ 32
    place_small = let high = there.high in let most = sized.heap_most in omega (arith, high, most)

    abbrev pub with_character : Memory
    with_character = with_handle law with_byte byte_sized to u.wanted place still_has may.word place_small

    filled : Filled at u may.unused may.present text (c ∷ []) m with_byte sized byte_sized place
        (subst (λ n. IsRewritten m with_byte (place + n) 1) (sym (kept_length at u may.unused may.present)) written)
        (ap (λ n. bytes_at with_byte (place + n) 1) (kept_length at u may.unused may.present)
        ∙ store_here law m (place + u.kept) Byte c sized byte_may ∙ ap Some (one_byte c small)) true
    filled =
        let enough : u.wanted ≤ room_of u.present = (let r : room_of u.present ≡ length o.block.payload = ap room_of some in omega (arith, r, room, wanted)) in
        let f : IsFilled true at u text m place
        = subst (λ p. IsFilled true at u text m p) (ap place_of some) (stays_filled at u may.unused may.present m may.heap enough) in
        let l = kept_length at u may.unused may.present in
        let r = f.room in
        fills at u may.unused may.present text (c ∷ []) m with_byte sized byte_sized place
        (subst (λ n. IsRewritten m with_byte (place + n) 1) (sym l) written)
        (ap (λ n. bytes_at with_byte (place + n) 1) l ∙ store_here law m (place + u.kept) Byte c sized byte_may ∙ ap Some (one_byte c small)) true f
        (let e : length text + 1 ≤ room_of (block_then true u place f.payload) = omega (arith, l, r, wanted) in e)

    -- ---- all of it

    pub holds : holds_it u.present u.wanted ≡ true
    holds = let r : room_of u.present ≡ length o.block.payload = ap room_of some in le-leb u.wanted (room_of u.present) (omega (arith, r, room, wanted))

    pub character_put : AreContentsPut at (record { to = to; length = u.wanted; growth = u; bytes = text ++ c ∷ [] }) m with_character
    character_put = record {
      middle = with_byte;
      place = place;
      rest = data_more at m m with_byte (data_same at m) filled.rest;
      filled = subst (λ b. IsFilled b at u (text ++ c ∷ []) with_byte place) (sym holds) filled.filled;
      put = handle_put law with_byte byte_sized to u.wanted place still_has may.word place_small;
    }
