-- How many blocks of each size are and were live, where one is taken or given.
use Rattle.std.proofs.Common.{◌≡◌, ℕ, zero, suc, ◌+◌, ◌*◌, ◌<◌, List, [], ◌∷◌, length, refl, sym, ap, subst, arith}
use Rattle.std.specs.Prelude.{nat_lt}
use Rattle.nim_meaning.specs.Heap.{Class, demand, at_class}
use Rattle.heap_memory.specs.HeapBlocks.{Block}
use Rattle.heap_memory.specs.HeapState.{IsCounted, AreCounted}
use Rattle.heap_memory.specs.HeapRoutines.{has_free}

-- the entry of a class, which is so far behind the first one of these, and what a change of it does
pub record Entry (blocks : List Block) (frees : (class : ℕ) → List ℕ) (class far : ℕ) (classes : List Class) : Type 0 where
  pub entry : Class
  pub counted : IsCounted blocks frees class entry
  pub free : has_free far classes ≡ nat_lt entry.live entry.peak
  pub changed : (f : Class → Class) → demand (at_class f far classes) + entry.size * entry.peak ≡ demand classes + (f entry).size * (f entry).peak

module _ (blocks : List Block) (frees : (class : ℕ) → List ℕ) where
  pub entry_of : (from far class : ℕ) (classes : List Class) → class ≡ from + far → AreCounted blocks frees from classes → far < length classes
      → Entry blocks frees class far classes
  entry_of from far class [] is all less = absurd (omega (arith, less))
  entry_of from zero class (c ∷ classes) is all less = record {
    entry = c;
    counted = subst (λ n. IsCounted blocks frees n c) (omega (arith, is)) all.0;
    free = refl;
    changed = λ f. omega arith;
  }
  entry_of from (suc far) class (c ∷ classes) is all less =
      let r = entry_of (suc from) far class classes (omega (arith, is)) all.1 (omega (arith, less)) in
      record {
        entry = r.entry;
        counted = r.counted;
        free = r.free;
        changed = λ f. let e = r.changed f in omega (arith, e);
      }

-- each entry is counted anew
pub all_counted : (blocks others : List Block) (frees free_others : (class : ℕ) → List ℕ) (from : ℕ) (classes : List Class)
    → ((class : ℕ) (c : Class) → IsCounted blocks frees class c → IsCounted others free_others class c)
    → AreCounted blocks frees from classes → AreCounted others free_others from classes
all_counted blocks others frees free_others from [] anew all = tt
all_counted blocks others frees free_others from (c ∷ classes) anew all =
    (anew from c all.0, all_counted blocks others frees free_others (suc from) classes anew all.1)

-- and that of one class is changed
pub one_counted : (blocks others : List Block) (frees free_others : (class : ℕ) → List ℕ) (f : Class → Class) (from far class : ℕ) (classes : List Class)
    → class ≡ from + far → ((c : Class) → IsCounted blocks frees class c → IsCounted others free_others class (f c))
    → ((other : ℕ) (c : Class) → (other ≡ class → ⊥) → IsCounted blocks frees other c → IsCounted others free_others other c)
    → AreCounted blocks frees from classes → AreCounted others free_others from (at_class f far classes)
one_counted blocks others frees free_others f from far class [] is here there all = tt
one_counted blocks others frees free_others f from zero class (c ∷ classes) is here there all = (
  (let e : class ≡ from = omega (arith, is) in
      subst (λ n. IsCounted others free_others n (f c)) e (here c (subst (λ n. IsCounted blocks frees n c) (sym e) all.0))),
  rest (suc from) classes (omega (arith, is)) all.1,
)
  where
    rest : (n : ℕ) (cs : List Class) → class < n → AreCounted blocks frees n cs → AreCounted others free_others n cs
    rest n [] less are = tt
    rest n (d ∷ ds) less are = (there n d (λ e. absurd (omega (arith, e, less))) are.0, rest (suc n) ds (omega (arith, less)) are.1)
one_counted blocks others frees free_others f from (suc far) class (c ∷ classes) is here there all = (
  there from c (λ e. absurd (omega (arith, e, is))) all.0,
  one_counted blocks others frees free_others f (suc from) far class classes (omega (arith, is)) here there all.1,
)

pub length-at_class : (f : Class → Class) (far : ℕ) (classes : List Class) → length (at_class f far classes) ≡ length classes
length-at_class f far [] = refl
length-at_class f zero (c ∷ classes) = refl
length-at_class f (suc far) (c ∷ classes) = ap suc (length-at_class f far classes)
