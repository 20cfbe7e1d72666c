-- Deeds that get a text or a sequence a block: where they answer, where they end the run for want of heap, and how much they work.
use Rattle.std.proofs.Common.{◌≡◌, ℕ, zero, suc, ◌+◌, ◌≤◌, List, [], ◌++◌, length, Option, Some, None, Bool, true, false, refl, sym, ap, ap₂, subst, ◌∙◌}
use Rattle.std.proofs.Common.{arith, append_assoc, append-nil}
use Rattle.std.specs.Prelude.{◌||◌, if◌then◌else◌}
use Rattle.arc_base.specs.Event.{Event}
use Rattle.nim_meaning.specs.Values.{Value, Handle, Base, Standing, Waiting, InHand, InBlock, InException, Made, Location, block_of, is_handle}
use Rattle.nim_meaning.specs.Heap.{Contents, Block, block_at, class_for, has_room}
use Rattle.nim_meaning.specs.State.{World, load, stored, is_there, is_seen, is_live}
use Rattle.nim_meaning.specs.Deeds.{Change, Stores, Opens, Waits, Leaves, Pushes, Pops, Reads, Refills, Frees, freed, changed, with_block}
use Rattle.nim_meaning.specs.Deeds.{Deed, Gives, Ends, Errs, Works, Says, Looks, Changes, Takes, Done, Answers, Finishes, Fails, behind, took, perform}
use Rattle.nim_meaning.specs.Deeds.{give, ◌>>=◌, ◌>>◌, branch, does, sets, frees, refills}
use Rattle.nim_meaning.specs.Lifted.{has_place, fresh, resized}
use Rattle.word_lowering.proofs.RowRuns.{Came}

-- ---- deeds one behind the other

abbrev pub followed : {A B : Type 0} → (A → Deed B) → Done A → Done B
followed rest (Answers es n x w) = behind es n (perform (rest x) w)
followed rest (Finishes es n status w) = Finishes es n status w
followed rest (Fails es n w) = Fails es n w

behind_twice : {A : Type 0} (es fs : List Event) (m n : ℕ) (x : Done A) → behind es m (behind fs n x) ≡ behind (es ++ fs) (m + n) x
behind_twice es fs m n (Answers gs k a w) =
    let e : m + (n + k) ≡ (m + n) + k = omega arith in ap₂ (λ hs i. Answers hs i a w) (sym (append_assoc es fs gs)) e
behind_twice es fs m n (Finishes gs k status w) =
    let e : m + (n + k) ≡ (m + n) + k = omega arith in ap₂ (λ hs i. Finishes hs i status w) (sym (append_assoc es fs gs)) e
behind_twice es fs m n (Fails gs k w) =
    let e : m + (n + k) ≡ (m + n) + k = omega arith in ap₂ (λ hs i. Fails hs i w) (sym (append_assoc es fs gs)) e

pub behind_none : {A : Type 0} (x : Done A) → behind [] 0 x ≡ x
behind_none (Answers gs k a w) = let e : 0 + k ≡ k = omega arith in ap (λ i. Answers gs i a w) e
behind_none (Finishes gs k status w) = let e : 0 + k ≡ k = omega arith in ap (λ i. Finishes gs i status w) e
behind_none (Fails gs k w) = let e : 0 + k ≡ k = omega arith in ap (λ i. Fails gs i w) e

module _ {A B : Type 0} (rest : A → Deed B) where
  followed_behind : (es : List Event) (n : ℕ) (x : Done A) → behind es n (followed rest x) ≡ followed rest (behind es n x)
  followed_behind es n (Answers fs m x w) = behind_twice es fs n m (perform (rest x) w)
  followed_behind es n (Finishes fs m status w) = refl
  followed_behind es n (Fails fs m w) = refl

  took_followed : (b : Bool) (x : Done A) (w : World) → took b (followed rest x) w ≡ followed rest (took b x w)
  took_followed true x w = refl
  took_followed false x w = refl

  pub perform_then : (a : Deed A) (w : World) → perform (a >>= rest) w ≡ followed rest (perform a w)
  perform_then (Gives x) w = sym (behind_none (perform (rest x) w))
  perform_then (Ends status) w = refl
  perform_then Errs w = refl
  perform_then (Works n a) w = ap (behind [] n) (perform_then a w) ∙ followed_behind [] n (perform a w)
  perform_then (Says es a) w = ap (behind es 0) (perform_then a w) ∙ followed_behind es 0 (perform a w)
  perform_then (Looks f) w = perform_then (f w) w
  perform_then (Changes change a) w = perform_then a (changed change w)
  perform_then (Takes class c f) w =
      ap (λ x. took (has_room w.heap class) x w) (perform_then (f (length w.heap.blocks)) (with_block class c w))
      ∙ took_followed (has_room w.heap class) (perform (f (length w.heap.blocks)) (with_block class c w)) w

-- ---- deeds that only look, work, and change what isn't the input

abbrev KeepsInput : Change → Type 0
KeepsInput (Reads n) = ⊥
KeepsInput change = Unit {0}

pub stored_input : (w : World) (base : Base) (v : Value) → (stored w base v).input ≡ w.input
stored_input w (Standing level number) v = refl
stored_input w (Waiting level node) v = refl
stored_input w (InBlock k) v = refl
stored_input w (InHand i) v = refl
stored_input w (InException i) v = refl
stored_input w (Made old) v = refl

changed_input : (change : Change) (w : World) → KeepsInput change → (changed change w).input ≡ w.input
changed_input (Stores location v) w keeps = stored_input w location.base _
changed_input (Opens level place slot) w keeps = refl
changed_input (Waits level node slot) w keeps = refl
changed_input (Leaves level node) w keeps = refl
changed_input (Pushes v) w keeps = refl
changed_input Pops w keeps = refl
changed_input (Reads n) w keeps = absurd keeps
changed_input (Refills k c) w keeps = refl
changed_input (Frees k) w keeps = by (block_at w.heap k)
  where
    by : (o : Option Block) → (freed w k o).input ≡ w.input
    by None = refl
    by (Some b) = refl

abbrev pub IsStill : {A : Type 0} → Deed A → Type 0
IsStill (Gives x) = Unit {0}
IsStill (Ends status) = ⊥
IsStill Errs = Unit {0}
IsStill (Works n a) = IsStill a
IsStill (Says es a) = ⊥
IsStill (Looks f) = (w : World) → IsStill (f w)
IsStill (Changes change a) = KeepsInput change × IsStill a
IsStill (Takes class c f) = ⊥

pub came_works : {A : Type 0} (least n : ℕ) (room : Bool) (input : List ℕ) (x : Done A) → Came least room input x → Came (n + least) room input (behind [] n x)
came_works least n room input (Answers es m a w) (none, some, there, same) = (none, omega (arith, some), there, same)
came_works least n room input (Finishes es m status w) (line, some, full, one) = (line, omega (arith, some), full, one)
came_works least n room input (Fails es m w) came = tt

pub came_less : {A : Type 0} (less least : ℕ) (room : Bool) (input : List ℕ) (x : Done A) → less ≤ least → Came least room input x → Came less room input x
came_less less least room input (Answers es m a w) h (none, some, there, same) = (none, omega (arith, h, some), there, same)
came_less less least room input (Finishes es m status w) h (line, some, full, one) = (line, omega (arith, h, some), full, one)
came_less less least room input (Fails es m w) h came = tt

pub still_came : {A : Type 0} (a : Deed A) (w : World) → IsStill a → Came 0 true w.input (perform a w)
still_came (Gives x) w still = (refl, omega arith, refl, refl)
still_came (Ends status) w still = absurd still
still_came Errs w still = tt
still_came (Works n a) w still =
    came_less 0 (n + 0) true w.input (behind [] n (perform a w)) (omega arith) (came_works 0 n true w.input (perform a w) (still_came a w still))
still_came (Says es a) w still = absurd still
still_came (Looks f) w still = still_came (f w) w (still w)
still_came (Changes change a) w still =
    subst (λ i. Came 0 true i (perform a (changed change w))) (changed_input change w still.0) (still_came a (changed change w) still.1)
still_came (Takes class c f) w still = absurd still

pub still_then : {A B : Type 0} (a : Deed A) (rest : A → Deed B) → IsStill a → ((x : A) → IsStill (rest x)) → IsStill (a >>= rest)
still_then (Gives x) rest still go = go x
still_then (Ends status) rest still go = absurd still
still_then Errs rest still go = tt
still_then (Works n a) rest still go = still_then a rest still go
still_then (Says es a) rest still go = absurd still
still_then (Looks f) rest still go = λ w. still_then (f w) rest (still w) go
still_then (Changes change a) rest still go = (still.0, still_then a rest still.1 go)
still_then (Takes class c f) rest still go = absurd still

-- whoever follows a deed that came to something, and only looks, works and changes
pub then_came : {A B : Type 0} (a : Deed A) (rest : A → Deed B) (w : World) (least : ℕ) (room : Bool) (left : List ℕ) → ((x : A) → IsStill (rest x))
    → Came least room left (perform a w) → Came least room left (perform (a >>= rest) w)
then_came a rest w least room left still came =
    subst (λ x. Came least room left x) (sym (perform_then rest a w)) (by (perform a w) came)
  where
    by : (x : Done _) → Came least room left x → Came least room left (followed rest x)
    by (Answers es n x v) (none, some, there, same) =
        let c = came_works 0 n true v.input (perform (rest x) v) (still_came (rest x) v (still x)) in
        subst (λ fs. Came least room left (behind fs n (perform (rest x) v))) (sym none)
        (subst (λ r. Came least r left (behind [] n (perform (rest x) v))) (sym there)
        (subst (λ i. Came least true i (behind [] n (perform (rest x) v))) same
        (came_less least (n + 0) true v.input (behind [] n (perform (rest x) v)) (omega (arith, some)) c)))
    by (Finishes es n status v) came = came
    by (Fails es n v) came = tt

-- ---- what they are made of

pub branch_still : {A : Type 0} (b : Bool) (a c : Deed A) → IsStill a → IsStill c → IsStill (branch b a c)
branch_still true a c x y = x
branch_still false a c x y = y

pub sets_still : (l : Location) (v : Value) → IsStill (sets l v)
sets_still l v = λ w. branch_still (is_there w l) (does (Stores l v)) Errs (tt, tt) tt

pub frees_still : (k : Option ℕ) → IsStill (frees k)
frees_still None = tt
frees_still (Some k) = λ w. branch_still (is_live w k) (does (Frees k)) Errs (tt, tt) tt

pub refills_still : (k : Option ℕ) (c : Contents) → IsStill (refills k c)
refills_still None c = tt
refills_still (Some k) c = λ w. branch_still (is_live w k) (does (Refills k c)) Errs (tt, tt) tt

-- ---- a new block

took_came : {A : Type 0} (n : ℕ) (b : Bool) (w : World) (x : Done A) → Came 0 true w.input x → Came n b w.input (behind [] n (took b x w))
took_came n true w x came = came_less n (n + 0) true w.input (behind [] n x) (omega arith) (came_works 0 n true w.input x came)
took_came n false w x came = (refl, omega arith, refl, refl)

abbrev pub room_in : World → Option ℕ → (bytes : ℕ) → Bool
room_in w k bytes = has_place w k bytes || has_room w.heap (class_for bytes w.heap.classes)

-- what it works at least: a new block costs its bytes
abbrev pub least_of : (has : Bool) → (bytes : ℕ) → ℕ
least_of has bytes = if has then 0 else bytes

pub least_few : (has : Bool) (bytes : ℕ) → least_of has bytes ≤ bytes
least_few true bytes = omega arith
least_few false bytes = omega arith

module _ (w : World) (n bytes : ℕ) (c : Contents) (none : n ≡ 0 → bytes ≡ 0) where
  -- where there is none, or one that is too small
  then_fresh : {A : Type 0} (rest : Value → Deed A) → ((v : Value) → IsStill (rest v)) → (bytes ≡ 0 → n ≡ 0)
      → Came bytes (has_place w None bytes || has_room w.heap (class_for bytes w.heap.classes)) w.input (perform (fresh n bytes c >>= rest) w)
  then_fresh rest still none_bytes = by n bytes none none_bytes
    where
      by : (n bytes : ℕ) → (n ≡ 0 → bytes ≡ 0) → (bytes ≡ 0 → n ≡ 0)
          → Came bytes (has_place w None bytes || has_room w.heap (class_for bytes w.heap.classes)) w.input (perform (fresh n bytes c >>= rest) w)
      by zero zero h j = still_came (rest (Handle 0 None)) w (still (Handle 0 None))
      by zero (suc k) h j = absurd (let e = h refl in omega (arith, e))
      by (suc i) zero h j = absurd (let e = j refl in omega (arith, e))
      by (suc i) (suc k) h j =
          took_came (suc k) (has_room w.heap (class_for (suc k) w.heap.classes)) w
          (perform (rest (Handle (suc i) (Some (length w.heap.blocks)))) (with_block (class_for (suc k) w.heap.classes) c w))
          (still_came (rest (Handle (suc i) (Some (length w.heap.blocks)))) (with_block (class_for (suc k) w.heap.classes) c w)
          (still (Handle (suc i) (Some (length w.heap.blocks)))))

  pub fresh_came : (bytes ≡ 0 → n ≡ 0) → Came bytes (room_in w None bytes) w.input (perform (fresh n bytes c) w)
  fresh_came none_bytes =
      subst (λ x. Came bytes (room_in w None bytes) w.input x) (perform_then give (fresh n bytes c) w ∙ followed_give (perform (fresh n bytes c) w))
      (then_fresh give (λ v. tt) none_bytes)
    where
      followed_give : (x : Done Value) → followed give x ≡ x
      followed_give (Answers es m v z) =
          let e : m + 0 ≡ m = omega arith in ap₂ (λ fs i. Answers fs i v z) (append-nil es) e
      followed_give (Finishes es m status z) = refl
      followed_give (Fails es m z) = refl

  -- a text or a sequence at a location gets other contents
  module _ (l : Location) (k : Option ℕ) (is : block_of (load w l) ≡ k) where
    abbrev Stays : Option ℕ → Deed (Unit {0})
    Stays j = refills j c >> sets l (Handle n j)

    abbrev Moves : Option ℕ → Deed (Unit {0})
    Moves j = fresh n bytes c >>= (λ new. sets l new >> frees j)

    moves_still : (j : Option ℕ) (new : Value) → IsStill (sets l new >> frees j)
    moves_still j new = still_then (sets l new) (λ _. frees j) (sets_still l new) (λ _. frees_still j)

    moved_came : has_place w k bytes ≡ false → Came bytes (has_room w.heap (class_for bytes w.heap.classes)) w.input (perform (Moves k) w)
    moved_came lacks = by n bytes none lacks
      where
        by : (n bytes : ℕ) → (n ≡ 0 → bytes ≡ 0) → has_place w k bytes ≡ false
            → Came bytes (has_room w.heap (class_for bytes w.heap.classes)) w.input (perform (fresh n bytes c >>= (λ new. sets l new >> frees k)) w)
        by n zero h lacks = absurd (let e : true ≡ false = lacks in cc)
        by zero (suc j) h lacks = absurd (let e = h refl in omega (arith, e))
        by (suc i) (suc j) h lacks =
            took_came (suc j) (has_room w.heap (class_for (suc j) w.heap.classes)) w
            (perform (sets l (Handle (suc i) (Some (length w.heap.blocks))) >> frees k) (with_block (class_for (suc j) w.heap.classes) c w))
            (still_came (sets l (Handle (suc i) (Some (length w.heap.blocks))) >> frees k) (with_block (class_for (suc j) w.heap.classes) c w)
            (moves_still k (Handle (suc i) (Some (length w.heap.blocks)))))

    branched : (p : Bool) → has_place w k bytes ≡ p
        → Came (least_of p bytes) (p || has_room w.heap (class_for bytes w.heap.classes)) w.input (perform (branch p (Stays k) (Moves k)) w)
    branched true e = still_came (Stays k) w (still_then (refills k c) (λ _. sets l (Handle n k)) (refills_still k c) (λ _. sets_still l (Handle n k)))
    branched false e = moved_came e

    pub resized_came : Came (least_of (has_place w k bytes) bytes) (room_in w k bytes) w.input (perform (resized n bytes c l) w)
    resized_came = by (is_seen w l) (is_handle (load w l))
      where
        by : (b h : Bool) → Came (least_of (has_place w k bytes) bytes) (room_in w k bytes) w.input (perform (branch b (branch h
            (branch (has_place w (block_of (load w l)) bytes) (Stays (block_of (load w l))) (Moves (block_of (load w l)))) Errs) Errs) w)
        by true true =
            subst (λ j. Came (least_of (has_place w k bytes) bytes) (room_in w k bytes) w.input (perform (branch (has_place w j bytes) (Stays j) (Moves j)) w))
            (sym is) (branched (has_place w k bytes) refl)
        by true false = tt
        by false h = tt
