-- The walk finds the blocks of a heap.
use Rattle.std.proofs.Common.{◌≡◌, ℕ, zero, suc, ◌+◌, ◌-◌, ◌/◌, ◌%◌, ◌^◌, ◌<◌, ◌≤◌, inl, inr, List, [], ◌∷◌, ◌++◌, length, take, replicate, Some, Ok}
use Rattle.std.proofs.Common.{Result}
use Rattle.std.proofs.Common.{true, refl, sym, ap, ap₂, subst, ◌∙◌, ⊎_elim, arith, append_assoc, length-append, ne_eqb}
use Rattle.std.specs.Prelude.{nat_lt, nat_le, ◌==◌, ◌&&◌, not, if◌then◌else◌}
use Rattle.std.proofs.lemmas.Bool.{lt-ltb, le-ltb, le-leb, and_from, cond-true, cond-false, cases_eq}
use Rattle.std.proofs.lemmas.Option.{none-some, same_Some}
use Rattle.std.proofs.Math.Seq.{take-append_seam}
use Rattle.nim_meaning.specs.Heap.{Class, size_count}
use Rattle.rv32_isa.specs.Words.{little, word_bytes}
use Rattle.rv32_isa.proofs.ForCallers.{length-word_bytes, little-word_bytes}
use Rattle.word_code.specs.Memory.{Memory}
use Rattle.heap_memory.specs.HeapBlocks.{size_at, Holder, Nobody, Held, Block, kind_of, word_of, first_word, block_bytes, block_size, HasWords}
use Rattle.heap_memory.specs.HeapBlocks.{IsBlock, AreBlocks}
use Rattle.heap_memory.specs.HeapBlocks.{all_bytes, first_place, block_from, block_in}
use Rattle.heap_memory.specs.HeapState.{Standing, Stands, held_block, AreHeld, IsHeap}
use Rattle.heap_memory.specs.Walk.{Over, Block as IsBlockThere, block_of, found, and_kind, on_found, walk_from, walk, how_many, IsOneOf, AreOnce, WalksRight}
use Rattle.heap_memory.proofs.BlockLists.{if_same, if_other, size_some, within, length_block}

identity_in : Holder → ℕ
identity_in Nobody = 0
identity_in (Held identity kind word) = identity

identity_is : (j k : ℕ) (t : Standing) (class kind word : ℕ) (payload : List ℕ)
    → ◌≡◌ {A = Block} (record { class = class; holder = Held k kind word; payload = payload }) (held_block j t) → j ≡ k
unfolding identity_in
identity_is j k t class kind word payload e = sym (ap (λ b. identity_in b.holder) e)

-- ---- one step

-- bytes that belong to a block are passed
passes : (kinds offset : ℕ) (xs ys : List ℕ) → walk_from kinds offset (length xs) (xs ++ ys) ≡ walk_from kinds (offset + length xs) 0 ys
passes kinds offset [] ys = ap (λ o. walk_from kinds o 0 ys) (omega arith)
passes kinds offset (x ∷ xs) ys = passes kinds (suc offset) xs ys ∙ ap (λ o. walk_from kinds o 0 ys) (omega arith)

-- the first word of a header
first_of_bytes : (b : Block) (rest : List ℕ) → first_word (kind_of b.holder) b.class < 2 ^ 32
    → little (take 4 (block_bytes b ++ rest)) ≡ first_word (kind_of b.holder) b.class
first_of_bytes b rest small =
    let first : List ℕ = word_bytes (first_word (kind_of b.holder) b.class) in
    let second : List ℕ = word_bytes (word_of b.holder) in
    ap (λ z. little (take 4 z)) (append_assoc (first ++ second) b.payload rest ∙ append_assoc first second (b.payload ++ rest))
    ∙ ap (λ k. little (take k (first ++ (second ++ (b.payload ++ rest))))) (sym (length-word_bytes (first_word (kind_of b.holder) b.class)))
    ∙ ap little (take-append_seam first (second ++ (b.payload ++ rest)))
    ∙ little-word_bytes (first_word (kind_of b.holder) b.class) small

first_small : (b : Block) → IsBlock b → first_word (kind_of b.holder) b.class < 2 ^ 32
first_small b is = by b.class b.holder is.sized is.words
  where
    by : (class : ℕ) (holder : Holder) → class < size_count → HasWords class holder → first_word (kind_of holder) class < 2 ^ 32
    by class Nobody known words = omega (arith, known)
    by class (Held identity kind word) known words = words.1

-- a block is found where it stands
finds : (kinds : ℕ) (b : Block) (rest : List ℕ) → IsBlock b → kind_of b.holder < kinds
    → found kinds (block_bytes b ++ rest) ≡ IsBlockThere (kind_of b.holder) (block_size b)
finds kinds b rest is few =
    let bytes : List ℕ = block_bytes b ++ rest in
    let kind : ℕ = kind_of b.holder in
    let known = is.sized in
    let l = length_block b is in
    let s = size_some b.class in
    let long : block_size b ≤ length bytes = (let n = length-append (block_bytes b) rest in omega (arith, n, l)) in
    let word : little (take 4 bytes) ≡ first_word kind b.class = first_of_bytes b rest (first_small b is) in
    let low : first_word kind b.class % 128 ≡ suc b.class = omega (arith, known) in
    let high : first_word kind b.class / 128 ≡ kind = omega (arith, known) in
    let size : size_at (first_word kind b.class % 128 - 1) ≡ block_size b = ap (λ i. size_at (i - 1)) low ∙ ap size_at (omega arith) in
    let test : (not (first_word kind b.class % 128 == 0) && (nat_le (first_word kind b.class % 128) size_count
    && (nat_lt (first_word kind b.class / 128) kinds && nat_le (size_at (first_word kind b.class % 128 - 1)) (length bytes)))) ≡ true
    = and_from (not (first_word kind b.class % 128 == 0)) _ (ap not (ne_eqb (first_word kind b.class % 128) 0 (λ e. absurd (omega (arith, e, low)))))
    (and_from (nat_le (first_word kind b.class % 128) size_count) _ (le-leb (first_word kind b.class % 128) size_count (omega (arith, low, known)))
    (and_from (nat_lt (first_word kind b.class / 128) kinds) _ (lt-ltb (first_word kind b.class / 128) kinds (omega (arith, high, few)))
    (le-leb (size_at (first_word kind b.class % 128 - 1)) (length bytes) (omega (arith, size, long))))) in
    cond-false (nat_lt (length bytes) 4) Over _ (le-ltb (length bytes) 4 (omega (arith, long, s)))
    ∙ cond-false (little (take 4 bytes) == 0) Over _ (ne_eqb (little (take 4 bytes)) 0 (λ e. absurd (omega (arith, e, word))))
    ∙ ap (λ w. block_of kinds w (length bytes)) word
    ∙ cond-true _ _ _ test
    ∙ ap₂ (λ k n. IsBlockThere k n) high size

module _ (kinds : ℕ) where
  -- and the walk goes on behind it
  steps : (offset : ℕ) (b : Block) (rest : List ℕ) → IsBlock b → kind_of b.holder < kinds
      → walk_from kinds offset 0 (block_bytes b ++ rest) ≡ and_kind (kind_of b.holder) (walk_from kinds (offset + block_size b) 0 rest)
  steps offset b rest is few = by (block_bytes b) refl
    where
      by : (bytes : List ℕ) → block_bytes b ≡ bytes
          → walk_from kinds offset 0 (block_bytes b ++ rest) ≡ and_kind (kind_of b.holder) (walk_from kinds (offset + block_size b) 0 rest)
      by [] e = let l = length_block b is in let n : length (block_bytes b) ≡ 0 = ap length e in let s = size_some b.class in absurd (omega (arith, l, n, s))
      by (y ∷ ys) e =
          let l = length_block b is in
          let n : length (block_bytes b) ≡ suc (length ys) = ap length e in
          let behind : ℕ → Result (List ℕ) ℕ = λ size. walk_from kinds (suc offset) (size - 1) (ys ++ rest) in
          ap (λ z. walk_from kinds offset 0 (z ++ rest)) e
          ∙ ap (λ z. on_found offset (found kinds (z ++ rest)) behind) (sym e)
          ∙ ap (λ f. on_found offset f behind) (finds kinds b rest is few)
          ∙ ap (and_kind (kind_of b.holder)) (ap (λ k. walk_from kinds (suc offset) k (ys ++ rest)) (omega (arith, l, n))
          ∙ passes kinds (suc offset) ys rest ∙ ap (λ o. walk_from kinds o 0 rest) (omega (arith, l, n)))

  -- zeros end it
  ends : (offset n : ℕ) → walk_from kinds offset 0 (replicate n 0) ≡ Ok []
  ends offset zero = refl
  ends offset (suc zero) = refl
  ends offset (suc (suc zero)) = refl
  ends offset (suc (suc (suc zero))) = refl
  ends offset (suc (suc (suc (suc n)))) =
      ap (λ f. on_found offset f (λ size. walk_from kinds (suc offset) (size - 1) (replicate (suc (suc (suc n))) 0))) over
    where
      over : found kinds (replicate (suc (suc (suc (suc n)))) 0) ≡ Over
      over = cond-false (nat_lt (length (replicate (suc (suc (suc (suc n)))) 0)) 4) Over Over
          (le-ltb (length (replicate (suc (suc (suc (suc n)))) 0)) 4 (omega arith))

  abbrev kinds_of : List Block → List ℕ
  kinds_of [] = []
  kinds_of (b ∷ blocks) = kind_of b.holder ∷ kinds_of blocks

  abbrev AreBelow : List Block → Type 0
  AreBelow [] = Unit {0}
  AreBelow (b ∷ blocks) = (kind_of b.holder < kinds) × AreBelow blocks

  walks : (offset n : ℕ) (bs : List Block) → AreBlocks bs → AreBelow bs → walk_from kinds offset 0 (all_bytes bs ++ replicate n 0) ≡ Ok (kinds_of bs)
  walks offset n [] all below = ends offset n
  walks offset n (b ∷ bs) all below =
      ap (walk_from kinds offset 0) (append_assoc (block_bytes b) (all_bytes bs) (replicate n 0))
      ∙ steps offset b (all_bytes bs ++ replicate n 0) all.0 below.0
      ∙ ap (and_kind (kind_of b.holder)) (walks (offset + block_size b) n bs all.1 below.1)

  -- ---- which blocks these are

  module _ (stands : Stands) (blocks : List Block) (held : AreHeld stands blocks) where
    -- the blocks from a place on are among all
    abbrev AreAmong : ℕ → List Block → Type 0
    AreAmong f bs = (p : ℕ) (b : Block) → block_from f p bs ≡ Some b → block_in p blocks ≡ Some b

    later : (f : ℕ) (b : Block) (bs : List Block) → AreAmong f (b ∷ bs) → AreAmong (f + block_size b) bs
    later f b bs among p x h =
        let w = within (f + block_size b) p x bs h in
        let l = w.low in
        let s = size_some b.class in
        among p x (if_other f p (Some b) (block_from (f + block_size b) p bs) (λ e. absurd (omega (arith, e, l, s))) ∙ h)

    first_there : (f : ℕ) (b : Block) (bs : List Block) → AreAmong f (b ∷ bs) → block_in f blocks ≡ Some b
    first_there f b bs among = among f b (if_same f f (Some b) (block_from (f + block_size b) f bs) refl)

    all_below : (f : ℕ) (bs : List Block) → AreAmong f bs → 0 < kinds → ((k : ℕ) (s : Standing) → stands k ≡ Some s → s.kind < kinds) → AreBelow bs
    all_below f [] among some few = tt
    all_below f (b ∷ bs) among some few =
        (one b.class b.holder b.payload (first_there f b bs among), all_below (f + block_size b) bs (later f b bs among) some few)
      where
        one : (class : ℕ) (holder : Holder) (payload : List ℕ) → block_in f blocks ≡ Some (record { class = class; holder = holder; payload = payload })
            → kind_of holder < kinds
        one class Nobody payload h = some
        one class (Held k kind word) payload h =
            few k (record { place = f; class = class; kind = kind; word = word; payload = payload })
            (held.only k (record { place = f; class = class; kind = kind; word = word; payload = payload }) h)

    module _ (kind : ℕ) (some : 0 < kind) where
      abbrev with_id : Holder → List ℕ → List ℕ
      with_id Nobody ids = ids
      with_id (Held k other word) ids = if other == kind then k ∷ ids else ids

      abbrev ids_of : List Block → List ℕ
      ids_of [] = []
      ids_of (b ∷ bs) = with_id b.holder (ids_of bs)

      abbrev From : ℕ → ℕ → Type 0
      From f k = (s : Standing) × (stands k ≡ Some s) × (s.kind ≡ kind) × (f ≤ s.place)

      record Ids (f : ℕ) (bs : List Block) : Type 0 where
        ids : List ℕ
        count : how_many kind (kinds_of bs) ≡ length ids
        once : AreOnce ids
        each : (k : ℕ) → IsOneOf k ids → From f k
        all : (k : ℕ) (s : Standing) → block_from f s.place bs ≡ Some (held_block k s) → s.kind ≡ kind → IsOneOf k ids

      -- a block that isn't of the kind adds none
      not_one : (f : ℕ) (b : Block) (bs : List Block) → (kind_of b.holder ≡ kind → ⊥) → Ids (f + block_size b) bs → Ids f (b ∷ bs)
      not_one f b bs other r = record {
        ids = r.ids;
        count = (let e = r.count in let z = if_other {A = ℕ} (kind_of b.holder) kind 1 0 other in omega (arith, e, z));
        once = r.once;
        each = λ k is. let x = r.each k is in let low = x.3 in (x.0, x.1, x.2, omega (arith, low));
        all = λ k s h of_kind. ⊎_elim
            (λ e. absurd (other (ap (λ c. kind_of c.holder)
            (same_Some b (held_block k s) (sym (if_same f s.place (Some b) (block_from (f + block_size b) s.place bs) e) ∙ h)) ∙ of_kind)))
            (λ no_eq. r.all k s (sym (if_other f s.place (Some b) (block_from (f + block_size b) s.place bs) no_eq) ∙ h) of_kind)
            (cases_eq f s.place);
      }

      -- one that is adds its identity
      one_more : (f class k word : ℕ) (payload : List ℕ) (bs : List Block)
          → stands k ≡ Some (record { place = f; class = class; kind = kind; word = word; payload = payload })
          → (let b : Block = record { class = class; holder = Held k kind word; payload = payload } in Ids (f + block_size b) bs → Ids f (b ∷ bs))
      one_more f class k word payload bs there r =
          let b : Block = record { class = class; holder = Held k kind word; payload = payload } in
          let s : Standing = record { place = f; class = class; kind = kind; word = word; payload = payload } in
          let size = size_some class in
          record {
            ids = k ∷ r.ids;
            count = (let e = r.count in let z = if_same {A = ℕ} kind kind 1 0 refl in omega (arith, e, z));
            once = (
              (λ is.
                  let x = r.each k is in
                  let e : f ≡ x.0.place = ap (λ t. t.place) (same_Some s x.0 (sym there ∙ x.1)) in
                  let low = x.3 in
                  absurd (omega (arith, e, low, size))),
              r.once,
            );
            each = λ j is. ⊎_elim (λ e. (s, ap stands e ∙ there, refl, omega arith))
                (λ was. let x = r.each j was in let low = x.3 in (x.0, x.1, x.2, omega (arith, low))) is;
            all = λ j t h of_kind. ⊎_elim
                (λ e. inl (identity_is j k t class kind word payload
                (same_Some b (held_block j t) (sym (if_same f t.place (Some b) (block_from (f + block_size b) t.place bs) e) ∙ h))))
                (λ no_eq. inr (r.all j t (sym (if_other f t.place (Some b) (block_from (f + block_size b) t.place bs) no_eq) ∙ h) of_kind))
                (cases_eq f t.place);
          }

      ids_from : (f : ℕ) (bs : List Block) → AreAmong f bs → Ids f bs
      ids_from f [] among = record { ids = []; count = refl; once = tt; each = λ k is. absurd is; all = λ k s h of_kind. absurd (none-some (held_block k s) h) }
      ids_from f (b ∷ bs) among =
          let r = ids_from (f + block_size b) bs (later f b bs among) in one b.class b.holder b.payload (first_there f b bs among) r
        where
          one : (class : ℕ) (holder : Holder) (payload : List ℕ) → block_in f blocks ≡ Some (record { class = class; holder = holder; payload = payload })
              → Ids (f + size_at class) bs → Ids f (record { class = class; holder = holder; payload = payload } ∷ bs)
          one class Nobody payload h r =
              not_one f (record { class = class; holder = Nobody; payload = payload }) bs (λ e. absurd (omega (arith, e, some))) r
          one class (Held k other word) payload h r = ⊎_elim
              (λ e. subst (λ i. Ids f (record { class = class; holder = Held k i word; payload = payload } ∷ bs)) (sym e)
              (one_more f class k word payload bs
              (subst (λ i. stands k ≡ Some (record { place = f; class = class; kind = i; word = word; payload = payload })) e
              (held.only k (record { place = f; class = class; kind = other; word = word; payload = payload }) h)) r))
              (λ no_eq. not_one f (record { class = class; holder = Held k other word; payload = payload }) bs no_eq r)
              (cases_eq other kind)

-- of memory where blocks were taken and given
pub walk_right : (kinds at : ℕ) (classes : List Class) (stands : Stands) (m : Memory) → IsHeap at classes stands m → 0 < kinds
    → ((k : ℕ) (s : Standing) → stands k ≡ Some s → s.kind < kinds) → WalksRight kinds stands m.heap
walk_right kinds at classes stands m h some few =
    let below = all_below kinds stands h.blocks h.kept.held first_place h.blocks (λ p b e. e) some few in
    record {
      found = kinds_of kinds h.blocks;
      walked = ap (walk kinds) h.bytes ∙ walks kinds 0 h.spare h.blocks h.kept.all below;
      live = λ kind positive.
          let r = ids_from kinds stands h.blocks h.kept.held kind positive first_place h.blocks (λ p b e. e) in (
            r.ids,
            record {
              once = r.once;
              each = λ k is. let x = r.each k is in (x.0, x.1, x.2);
              all = λ k s there of_kind. r.all k s (h.kept.held.there k s there) of_kind;
            },
            r.count,
          );
    }
