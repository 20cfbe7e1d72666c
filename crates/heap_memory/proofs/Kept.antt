-- Blocks that are held and free ones, where a block is taken or given.
use Rattle.std.proofs.Common.{◌≡◌, ℕ, suc, ◌+◌, ◌-◌, ◌*◌, ◌^◌, ◌<◌, ◌≤◌, ◌⊎◌, inl, inr, List, [], ◌∷◌, ◌++◌, length, take, drop, replicate, Some, None}
use Rattle.std.proofs.Common.{refl, sym, ap, subst, ◌∙◌, ⊎_elim, arith, max, mul-suc, length-append}
use Rattle.std.specs.Prelude.{◌==◌, if◌then◌else◌}
use Rattle.std.proofs.lemmas.Bool.{cases_eq}
use Rattle.std.proofs.lemmas.Option.{none-some, same_Some}
use Rattle.std.proofs.lemmas.List.{length-replicate, length-drop}
use Rattle.std.proofs.Math.Seq.{take-append_seam}
use Rattle.rv32_isa.specs.Words.{word_bytes, little}
use Rattle.rv32_isa.proofs.ForCallers.{length-word_bytes, little-word_bytes}
use Rattle.nim_meaning.specs.Heap.{Class, demand, size_count, one_more, one_less, at_class}
use Rattle.heap_memory.specs.HeapBlocks.{size_at, Holder, Nobody, Held, Block, HasWords, IsBlock, all_size, first_place}
use Rattle.heap_memory.specs.HeapBlocks.{block_in}
use Rattle.heap_memory.specs.HeapState.{Standing, Stands, with_block, without_block, held_block, AreHeld, first_of, free_block, IsAway, AreLinked}
use Rattle.heap_memory.specs.HeapState.{held_count, AreKept}
use Rattle.heap_memory.proofs.BlockLists.{if_same, if_other, size_some, placed, placed_here, placed_other, within, added, added_size, added_keeps, added_last}
use Rattle.heap_memory.proofs.BlockLists.{added_found, placed_size, placed_blocks, added_blocks, block_found, held_one, held_at, held_elsewhere, placed_count}
use Rattle.heap_memory.proofs.BlockLists.{added_count, found_count}
use Rattle.heap_memory.proofs.Counts.{Entry, entry_of, one_counted, length-at_class}

-- ---- holders

is_held : Holder → Type 0
is_held Nobody = ⊥
is_held (Held identity kind word) = Unit {0}

-- a free block is no held one
pub not_free : (class : ℕ) (payload : List ℕ) (k : ℕ) (s : Standing) → free_block class payload ≡ held_block k s → ⊥
unfolding is_held
not_free class payload k s e = subst is_held (sym (ap (λ b. b.holder) e)) tt

identity_in : Holder → ℕ
identity_in Nobody = 0
identity_in (Held identity kind word) = identity

kind_in : Holder → ℕ
kind_in Nobody = 0
kind_in (Held identity kind word) = kind

word_in : Holder → ℕ
word_in Nobody = 0
word_in (Held identity kind word) = word

same_standing : (p q c d k l w v : ℕ) (xs ys : List ℕ) → p ≡ q → c ≡ d → k ≡ l → w ≡ v → xs ≡ ys
    → ◌≡◌ {A = Standing} (record { place = p; class = c; kind = k; word = w; payload = xs }) (record { place = q; class = d; kind = l; word = v; payload = ys })
same_standing p q c d k l w v xs ys a b e f g =
    ap (λ z. record { place = z; class = c; kind = k; word = w; payload = xs }) a
    ∙ ap (λ z. record { place = q; class = z; kind = k; word = w; payload = xs }) b
    ∙ ap (λ z. record { place = q; class = d; kind = z; word = w; payload = xs }) e
    ∙ ap (λ z. record { place = q; class = d; kind = l; word = z; payload = xs }) f
    ∙ ap (λ z. record { place = q; class = d; kind = l; word = v; payload = z }) g

-- held blocks at one place are one
pub record OneBlock (j k : ℕ) (s t : Standing) : Type 0 where
  pub identity : j ≡ k
  pub standing : s ≡ t

pub one_block : (j k : ℕ) (s t : Standing) → s.place ≡ t.place → held_block j s ≡ held_block k t → OneBlock j k s t
unfolding identity_in kind_in word_in
one_block j k s t places e = record {
  identity = ap (λ b. identity_in b.holder) e;
  standing = same_standing s.place t.place s.class t.class s.kind t.kind s.word t.word s.payload t.payload places (ap (λ b. b.class) e)
      (ap (λ b. kind_in b.holder) e) (ap (λ b. word_in b.holder) e) (ap (λ b. b.payload) e);
}

-- ---- lists of free blocks

-- all blocks but one are there too
abbrev pub SameBut : (place : ℕ) (blocks others : List Block) → Type 0
SameBut place blocks others = (p : ℕ) (b : Block) → (p ≡ place → ⊥) → block_in p blocks ≡ Some b → block_in p others ≡ Some b

pub still_linked : (class place : ℕ) (blocks others : List Block) (places : List ℕ) → SameBut place blocks others → IsAway place places
    → AreLinked blocks class places → AreLinked others class places
still_linked class place blocks others [] same away all = tt
still_linked class place blocks others (p ∷ places) same away all = (
  record {
    payload = all.0.payload;
    there = same p (free_block class all.0.payload) (λ e. away.0 (sym e)) all.0.there;
    link = all.0.link;
  },
  all.1,
  still_linked class place blocks others places same away.1 all.2,
)

-- what is no free block of the class isn't among them
pub is_away : (class place : ℕ) (blocks : List Block) (places : List ℕ)
    → ((payload : List ℕ) → block_in place blocks ≡ Some (free_block class payload) → ⊥) → AreLinked blocks class places → IsAway place places
is_away class place blocks [] none all = tt
is_away class place blocks (p ∷ places) none all = (
  (λ e. none all.0.payload (ap (λ q. block_in q blocks) e ∙ all.0.there)),
  is_away class place blocks places none all.2,
)

-- places are words
pub first_small : (class : ℕ) (blocks : List Block) (places : List ℕ) → AreLinked blocks class places → first_place + all_size blocks < 2 ^ 32
    → first_of places < 2 ^ 32
first_small class blocks [] all small = omega arith
first_small class blocks (p ∷ places) all small =
    let w = within first_place p (free_block class all.0.payload) blocks all.0.there in
    let h = w.high in
    let s = size_some class in
    omega (arith, h, s, small)

-- with other places of one class
abbrev pub with_places : ℕ → List ℕ → ((class : ℕ) → List ℕ) → (class : ℕ) → List ℕ
with_places class places frees c = if c == class then places else frees c

all_linked : (blocks : List Block) (frees : (class : ℕ) → List ℕ) (class : ℕ) (places : List ℕ) → AreLinked blocks class places
    → ((c : ℕ) → (c ≡ class → ⊥) → AreLinked blocks c (frees c)) → (c : ℕ) → AreLinked blocks c (with_places class places frees c)
all_linked blocks frees class places here there c = ⊎_elim
    (λ e. subst (AreLinked blocks c) (sym (if_same c class places (frees c) e)) (subst (λ i. AreLinked blocks i places) (sym e) here))
    (λ no_eq. subst (AreLinked blocks c) (sym (if_other c class places (frees c) no_eq)) (there c no_eq))
    (cases_eq c class)

-- ---- a block is taken

module _ (classes : List Class) (stands : Stands) (blocks : List Block) (frees : (class : ℕ) → List ℕ) (kept : AreKept classes stands blocks frees) where
  pub entry_at : (class : ℕ) → class < size_count → Entry blocks frees class class classes
  entry_at class known = let s = kept.sizes in entry_of blocks frees 0 class class classes (omega arith) kept.counted (omega (arith, s, known))

  module _ (class k kind word : ℕ) (known : class < size_count) (unused : stands k ≡ None) (words : HasWords class (Held k kind word)) where
    abbrev pub standing : (place : ℕ) (payload : List ℕ) → Standing
    standing place payload = record { place = place; class = class; kind = kind; word = word; payload = payload }

    abbrev pub new_block : (payload : List ℕ) → Block
    new_block payload = held_block k (record { place = 0; class = class; kind = kind; word = word; payload = payload })

    here_held : (place : ℕ) (payload : List ℕ) (j : ℕ) (s : Standing) → with_block stands k (standing place payload) j ≡ Some s
        → ((j ≡ k) × (standing place payload ≡ s)) ⊎ ((j ≡ k → ⊥) × (stands j ≡ Some s))
    here_held place payload j s h = ⊎_elim
        (λ e. inl (e, same_Some (standing place payload) s (sym (if_same j k (Some (standing place payload)) (stands j) e) ∙ h)))
        (λ no_eq. inr (no_eq, sym (if_other j k (Some (standing place payload)) (stands j) no_eq) ∙ h))
        (cases_eq j k)

    stands_here : (place : ℕ) (payload : List ℕ) (j : ℕ) (s : Standing) → OneBlock j k s (standing place payload)
        → with_block stands k (standing place payload) j ≡ Some s
    stands_here place payload j s one = if_same j k (Some (standing place payload)) (stands j) one.identity ∙ ap Some (sym one.standing)

    stands_still : (place : ℕ) (payload : List ℕ) (j : ℕ) (s : Standing) → stands j ≡ Some s → with_block stands k (standing place payload) j ≡ Some s
    stands_still place payload j s h =
        if_other j k (Some (standing place payload)) (stands j) (λ e. none-some s (sym unused ∙ ap stands (sym e) ∙ h)) ∙ h

    -- from the list of its size
    module _ (place : ℕ) (places : List ℕ) (first : frees class ≡ place ∷ places) where
      abbrev linked : AreLinked blocks class (place ∷ places)
      linked = subst (AreLinked blocks class) first (kept.linked class)

      abbrev payload : List ℕ
      payload = linked.0.payload

      abbrev others : List Block
      others = placed first_place place (new_block payload) blocks

      abbrev free_others : (class : ℕ) → List ℕ
      free_others = with_places class places frees

      abbrev old : Block
      old = free_block class payload

      same_but : SameBut place blocks others
      same_but p b no_eq h = placed_other first_place place p (new_block payload) old blocks linked.0.there refl no_eq ∙ h

      held_now : AreHeld (with_block stands k (standing place payload)) others
      held_now = record {
        there = λ j s h. ⊎_elim
            (λ x. subst (λ t. block_in t.place others ≡ Some (held_block j t)) x.1
            (placed_here first_place place (new_block payload) old blocks linked.0.there
            ∙ ap (λ i. Some (held_block i (standing place payload))) (sym x.0)))
            (λ x. let was = kept.held.there j s x.1 in
            same_but s.place (held_block j s)
            (λ e. not_free class payload j s (same_Some old (held_block j s) (sym linked.0.there ∙ ap (λ p. block_in p blocks) (sym e) ∙ was))) was)
            (here_held place payload j s h);
        only = λ j s h. ⊎_elim
            (λ e. stands_here place payload j s (one_block j k s (standing place payload) e
            (same_Some (held_block j s) (new_block payload)
            (sym h ∙ ap (λ p. block_in p others) e ∙ placed_here first_place place (new_block payload) old blocks linked.0.there))))
            (λ no_eq. stands_still place payload j s (kept.held.only j s
            (sym (placed_other first_place place s.place (new_block payload) old blocks linked.0.there refl no_eq) ∙ h)))
            (cases_eq s.place place);
      }

      pub entry_free : (let e : Entry blocks frees class class classes = entry_at class known in e.entry.live < e.entry.peak)
      entry_free = let e = entry_at class known in let p = e.counted.peak in let l : length (frees class) ≡ suc (length places) =
          ap length first in omega (arith, p, l)

      pub taken_free : AreKept (at_class one_more class classes) (with_block stands k (standing place payload)) others free_others
      taken_free =
          let e = entry_at class known in
          let was = block_found first_place place old blocks kept.all linked.0.there in
          let count : (c : ℕ) → held_count c others + held_one c old ≡ held_count c blocks + held_one c (new_block payload)
          = λ c. placed_count c first_place place (new_block payload) old blocks linked.0.there in
          record {
            all = placed_blocks first_place place (new_block payload) blocks kept.all (record { sized = known; whole = was.whole; words = words });
            held = held_now;
            linked = all_linked others frees class places (still_linked class place blocks others places same_but linked.1 linked.2)
                (λ c no_eq. still_linked c place blocks others (frees c) same_but
                (is_away c place blocks (frees c) (λ xs h. no_eq (ap (λ b. b.class) (same_Some (free_block c xs) old (sym h ∙ linked.0.there))))
                (kept.linked c))
                (kept.linked c));
            counted = one_counted blocks others frees free_others one_more 0 class class classes (omega arith)
                (λ c is.
                let n = count class in
                let a : held_one class old ≡ 0 = held_at class old refl in
                let b : held_one class (new_block payload) ≡ 1 = held_at class (new_block payload) refl in
                let l : held_count class blocks ≡ c.live = is.live in
                let p : length (frees class) + c.live ≡ c.peak = is.peak in
                let f : length (frees class) ≡ suc (length places) = ap length first in
                let g : length (free_others class) ≡ length places = ap length (if_same class class places (frees class) refl) in
                record { size = is.size; live = omega (arith, n, a, b, l); peak = omega (arith, p, f, g) })
                (λ c d no_eq is.
                let n = count c in
                let a : held_one c old ≡ 0 = held_elsewhere c old (λ e. no_eq (sym e)) in
                let b : held_one c (new_block payload) ≡ 0 = held_elsewhere c (new_block payload) (λ e. no_eq (sym e)) in
                let l = is.live in
                let p = is.peak in
                let g : length (free_others c) ≡ length (frees c) = ap length (if_other c class places (frees c) no_eq) in
                record { size = is.size; live = omega (arith, n, a, b, l); peak = omega (arith, p, g) })
                kept.counted;
            sizes = length-at_class one_more class classes ∙ kept.sizes;
            demanded =
                let s = placed_size first_place place (new_block payload) old blocks linked.0.there refl in
                let d = kept.demanded in
                let c = e.changed one_more in
                let same : max (suc e.entry.live) e.entry.peak ≡ e.entry.peak = omega (arith, entry_free) in
                let product : e.entry.size * max (suc e.entry.live) e.entry.peak ≡ e.entry.size * e.entry.peak = ap (λ n. e.entry.size * n) same in
                omega (arith, s, d, c, product);
          }

    -- the next bytes, where none of its size is free
    module _ (empty : frees class ≡ []) where
      abbrev next_place : ℕ
      next_place = first_place + all_size blocks

      abbrev zeros : List ℕ
      zeros = replicate (size_at class - 8) 0

      abbrev next_blocks : List Block
      next_blocks = added blocks (new_block zeros)

      keeps_all : SameBut next_place blocks next_blocks
      keeps_all p b no_eq h = added_keeps first_place p b (new_block zeros) blocks h

      -- no block stands there yet
      none_there : (p : ℕ) (b : Block) → block_in p blocks ≡ Some b → p ≡ next_place → ⊥
      none_there p b h e = let w = within first_place p b blocks h in let g = w.high in let s = size_some b.class in absurd (omega (arith, g, s, e))

      held_next : AreHeld (with_block stands k (standing next_place zeros)) next_blocks
      held_next = record {
        there = λ j s h. ⊎_elim
            (λ x. subst (λ t. block_in t.place next_blocks ≡ Some (held_block j t)) x.1
            (added_last first_place next_place (new_block zeros) blocks refl ∙ ap (λ i. Some (held_block i (standing next_place zeros))) (sym x.0)))
            (λ x. added_keeps first_place s.place (held_block j s) (new_block zeros) blocks (kept.held.there j s x.1))
            (here_held next_place zeros j s h);
        only = λ j s h. ⊎_elim
            (λ was. stands_still next_place zeros j s (kept.held.only j s was))
            (λ x. stands_here next_place zeros j s (one_block j k s (standing next_place zeros) x.0 (sym x.1)))
            (added_found first_place s.place (held_block j s) (new_block zeros) blocks h);
      }

      all_away : (c : ℕ) (places : List ℕ) → AreLinked blocks c places → IsAway next_place places
      all_away c places all = is_away c next_place blocks places (λ xs h. none_there next_place (free_block c xs) h refl) all

      pub entry_full : (let e : Entry blocks frees class class classes = entry_at class known in e.entry.live ≡ e.entry.peak)
      entry_full = let e = entry_at class known in let p = e.counted.peak in let l : length (frees class) ≡ 0 = ap length empty in omega (arith, p, l)

      -- the demand with it
      pub next_demand : demand (at_class one_more class classes) ≡ all_size blocks + size_at class
      next_demand =
          let e = entry_at class known in
          let d = kept.demanded in
          let c = e.changed one_more in
          let s = e.counted.size in
          let more : max (suc e.entry.live) e.entry.peak ≡ suc e.entry.peak = omega (arith, entry_full) in
          let product : e.entry.size * max (suc e.entry.live) e.entry.peak ≡ e.entry.size * e.entry.peak + e.entry.size
          = ap (λ n. e.entry.size * n) more ∙ mul-suc e.entry.size e.entry.peak in
          omega (arith, d, c, s, product)

      pub taken_next : AreKept (at_class one_more class classes) (with_block stands k (standing next_place zeros)) next_blocks frees
      taken_next =
          let count : (c : ℕ) → held_count c next_blocks ≡ held_count c blocks + held_one c (new_block zeros) = λ c. added_count c (new_block zeros) blocks in
          let some = size_some class in
          let l = length-replicate {A = ℕ} (size_at class - 8) 0 in
          record {
            all = added_blocks (new_block zeros) blocks kept.all (record { sized = known; whole = omega (arith, some, l); words = words });
            held = held_next;
            linked = λ c. still_linked c next_place blocks next_blocks (frees c) keeps_all (all_away c (frees c) (kept.linked c)) (kept.linked c);
            counted = one_counted blocks next_blocks frees frees one_more 0 class class classes (omega arith)
                (λ c is.
                let n = count class in
                let b : held_one class (new_block zeros) ≡ 1 = held_at class (new_block zeros) refl in
                let v = is.live in
                let p = is.peak in
                let f : length (frees class) ≡ 0 = ap length empty in
                record { size = is.size; live = omega (arith, n, b, v); peak = omega (arith, p, f) })
                (λ c d no_eq is.
                let n = count c in
                let b : held_one c (new_block zeros) ≡ 0 = held_elsewhere c (new_block zeros) (λ e. no_eq (sym e)) in
                let v = is.live in
                record { size = is.size; live = omega (arith, n, b, v); peak = is.peak })
                kept.counted;
            sizes = length-at_class one_more class classes ∙ kept.sizes;
            demanded = added_size (new_block zeros) blocks ∙ sym next_demand;
          }

  -- ---- a block is given back

  module _ (k : ℕ) (s : Standing) (there : stands k ≡ Some s) (small : first_place + all_size blocks < 2 ^ 32) where
    abbrev was : Block
    was = held_block k s

    was_there : block_in s.place blocks ≡ Some was
    was_there = kept.held.there k s there

    abbrev pub link : ℕ
    link = first_of (frees s.class)

    -- its payload begins with the place of the one that was the first
    abbrev pub left_payload : List ℕ
    left_payload = word_bytes link ++ drop 4 s.payload

    abbrev pub free_now : Block
    free_now = free_block s.class left_payload

    abbrev pub given_blocks : List Block
    given_blocks = placed first_place s.place free_now blocks

    abbrev pub given_frees : (class : ℕ) → List ℕ
    given_frees = with_places s.class (s.place ∷ frees s.class) frees

    but_that : SameBut s.place blocks given_blocks
    but_that p b no_eq h = placed_other first_place s.place p free_now was blocks was_there refl no_eq ∙ h

    pub given_block : IsBlock was
    given_block = block_found first_place s.place was blocks kept.all was_there

    no_free : (c : ℕ) → IsAway s.place (frees c)
    no_free c = is_away c s.place blocks (frees c)
        (λ xs h. not_free c xs k s (same_Some (free_block c xs) was (sym h ∙ was_there))) (kept.linked c)

    abbrev gone : Stands
    gone = without_block stands k

    gone_still : (j : ℕ) (t : Standing) → gone j ≡ Some t → (j ≡ k → ⊥) × (stands j ≡ Some t)
    gone_still j t h = ⊎_elim
        (λ e. absurd (none-some t (sym (if_same j k None (stands j) e) ∙ h)))
        (λ no_eq. (no_eq, sym (if_other j k None (stands j) no_eq) ∙ h))
        (cases_eq j k)

    held_then : AreHeld gone given_blocks
    held_then = record {
      there = λ j t h.
          let x = gone_still j t h in
          let at = kept.held.there j t x.1 in
          but_that t.place (held_block j t)
          (λ e. x.0 ((one_block j k t s e (same_Some (held_block j t) was (sym at ∙ ap (λ p. block_in p blocks) e ∙ was_there))).identity)) at;
      only = λ j t h. ⊎_elim
          (λ e. absurd (not_free s.class left_payload j t (same_Some free_now (held_block j t)
          (sym (placed_here first_place s.place free_now was blocks was_there) ∙ ap (λ p. block_in p given_blocks) (sym e) ∙ h))))
          (λ no_eq.
          let at : block_in t.place blocks ≡ Some (held_block j t)
          = sym (placed_other first_place s.place t.place free_now was blocks was_there refl no_eq) ∙ h in
          let st = kept.held.only j t at in
          if_other j k None (stands j)
          (λ e. no_eq (ap (λ z. z.place) (same_Some t s (sym st ∙ ap stands e ∙ there)))) ∙ st)
          (cases_eq t.place s.place);
    }

    pub taken_back : AreKept (at_class one_less s.class classes) gone given_blocks given_frees
    taken_back =
        let is = given_block in
        let known = is.sized in
        let e = entry_at s.class known in
        let whole = is.whole in
        let some = size_some s.class in
        let lw = length-word_bytes link in
        let ld = length-drop 4 s.payload in
        let size : length left_payload ≡ length s.payload = length-append (word_bytes link) (drop 4 s.payload) ∙ omega (arith, lw, ld, whole, some) in
        let front : take 4 left_payload ≡ word_bytes link
        = ap (λ n. take n left_payload) (sym lw) ∙ take-append_seam (word_bytes link) (drop 4 s.payload) in
        let linked_now : little (take 4 left_payload) ≡ link
        = ap little front ∙ little-word_bytes link (first_small s.class blocks (frees s.class) (kept.linked s.class) small) in
        let count : (c : ℕ) → held_count c given_blocks + held_one c was ≡ held_count c blocks + held_one c free_now
        = λ c. placed_count c first_place s.place free_now was blocks was_there in
        let held : held_one s.class was ≡ 1 = held_at s.class was refl in
        let some_live : held_one s.class was ≤ held_count s.class blocks = found_count s.class first_place s.place was blocks was_there in
        record {
          all = placed_blocks first_place s.place free_now blocks kept.all (record { sized = known; whole = omega (arith, whole, size); words = tt });
          held = held_then;
          linked = all_linked given_blocks frees s.class (s.place ∷ frees s.class) (
            record { payload = left_payload; there = placed_here first_place s.place free_now was blocks was_there; link = linked_now },
            no_free s.class,
            still_linked s.class s.place blocks given_blocks (frees s.class) but_that (no_free s.class) (kept.linked s.class),
          )
              (λ c no_eq. still_linked c s.place blocks given_blocks (frees c) but_that (no_free c) (kept.linked c));
          counted = one_counted blocks given_blocks frees given_frees one_less 0 s.class s.class classes (omega arith)
              (λ c counts.
              let n = count s.class in
              let b : held_one s.class free_now ≡ 0 = held_at s.class free_now refl in
              let v = counts.live in
              let p = counts.peak in
              let g : length (given_frees s.class) ≡ suc (length (frees s.class)) =
              ap length (if_same s.class s.class (s.place ∷ frees s.class) (frees s.class) refl) in
              record { size = counts.size; live = omega (arith, n, b, v, held, some_live); peak = omega (arith, p, g, v, held, some_live) })
              (λ c d no_eq counts.
              let n = count c in
              let a : held_one c was ≡ 0 = held_elsewhere c was (λ e. no_eq (sym e)) in
              let b : held_one c free_now ≡ 0 = held_elsewhere c free_now (λ e. no_eq (sym e)) in
              let v = counts.live in
              let p = counts.peak in
              let g : length (given_frees c) ≡ length (frees c) = ap length (if_other c s.class (s.place ∷ frees s.class) (frees c) no_eq) in
              record { size = counts.size; live = omega (arith, n, a, b, v); peak = omega (arith, p, g) })
              kept.counted;
          sizes = length-at_class one_less s.class classes ∙ kept.sizes;
          demanded =
              let t = placed_size first_place s.place free_now was blocks was_there refl in
              let d = kept.demanded in
              let c = e.changed one_less in
              omega (arith, t, d, c);
        }
