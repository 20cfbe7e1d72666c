-- What is read of an input.
use Rattle.std.proofs.Common.{◌≡◌, ℕ, suc, ◌%◌, ◌<◌, List, [], ◌∷◌, ◌++◌, get_or, length, refl, ap₂, arith}
use Rattle.std.proofs.lemmas.List.{length-map, map-append}
use Rattle.rv32_isa.specs.Regions.{AreBytes, as_bytes}

-- bytes are read as they are
pub read_as_they_are : (bytes : List ℕ) → AreBytes bytes → as_bytes bytes ≡ bytes
read_as_they_are [] are = refl
read_as_they_are (b ∷ bytes) are = let low = are.0 in ap₂ (λ x xs. x ∷ xs) (omega (arith, low)) (read_as_they_are bytes are.1)

-- one after another, and as many
pub both_read : (first second : List ℕ) → as_bytes (first ++ second) ≡ as_bytes first ++ as_bytes second
both_read first second = map-append (λ n. n % 256) first second

pub as_many_read : (input : List ℕ) → length (as_bytes input) ≡ length input
as_many_read input = length-map input (λ n. n % 256)

-- as a type says it of its values
pub bytes_below : (bytes : List ℕ) → ((i : ℕ) → get_or bytes i 0 < 256) → AreBytes bytes
bytes_below [] h = tt
bytes_below (b ∷ bytes) h = (h 0, bytes_below bytes (λ i. h (suc i)))
