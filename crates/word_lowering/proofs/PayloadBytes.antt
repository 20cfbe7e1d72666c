-- What a payload has are bytes where the heap has no others.
use Rattle.std.proofs.Common.{ℕ, zero, suc, ◌-◌, List, [], ◌∷◌, length, take, drop, sym, subst, ◌∙◌, arith}
use Rattle.std.proofs.lemmas.Option.{same_Some}
use Rattle.rv32_isa.specs.Image.{heap_at}
use Rattle.word_code.specs.Memory.{Memory}
use Rattle.word_code.proofs.ForCallers.{Sized}
use Rattle.heap_memory.specs.HeapState.{Standing}
use Rattle.heap_memory.specs.HeapUse.{IsThere}
use Rattle.heap_memory.specs.TextRoutines.{AreBytes}
use Rattle.heap_memory.proofs.ForCallers.{heap_part}

pub bytes_front : (n : ℕ) (xs : List ℕ) → AreBytes xs → AreBytes (take n xs)
bytes_front zero xs are = tt
bytes_front (suc n) [] are = tt
bytes_front (suc n) (x ∷ xs) are = (are.0, bytes_front n xs are.1)

bytes_behind : (n : ℕ) (xs : List ℕ) → AreBytes xs → AreBytes (drop n xs)
bytes_behind zero xs are = are
bytes_behind (suc n) [] are = tt
bytes_behind (suc n) (x ∷ xs) are = bytes_behind n xs are.1

pub payload_bytes : (m : Memory) → Sized m → AreBytes m.heap → (x : Standing) → IsThere m x → AreBytes x.payload
payload_bytes m sized are x there =
    let low = there.low in
    let high = there.high in
    let l : ℕ = length x.payload in
    subst AreBytes
    (same_Some (take l (drop (x.place - heap_at) m.heap)) x.payload
    (sym (heap_part m sized x.place l (omega (arith, low)) (omega (arith, high))) ∙ there.bytes))
    (bytes_front l (drop (x.place - heap_at) m.heap) (bytes_behind (x.place - heap_at) m.heap are))
