-- What statements are put together of: nodes, places that are filled, loops.
use Rattle.std.proofs.Common.{◌≡◌, refl, sym, subst, ℕ, suc, ◌+◌, ◌<◌, ◌≤◌, Bool, true, false, List, [], ◌∷◌, ◌++◌, arith}
use Rattle.std.specs.Prelude.{ℤ, pos, ◌+ℤ◌, int_lt, nat_lt}
use Rattle.nim_types.specs.Forms.{Form, hooked}
use Rattle.arc_base.specs.BigStep.{Turn}
use Rattle.nim_program.specs.Ints.{is_true}
use Rattle.nim_program.specs.Program.{Declared}
use Rattle.nim_meaning.specs.ActTree as points
use Rattle.nim_meaning.specs.Ways.{At as Spot}
use Rattle.nim_meaning.specs.Acts.{with_trail}
use Rattle.nim_meaning.specs.Values.{Value, Number, number_of, Holds, Standing, Location, at_base}
use Rattle.nim_meaning.specs.State.{World, State}
use Rattle.nim_meaning.specs.Acts.{Exit, Does, branch, again, no_more, loop, ◌>>=◌, ◌>>◌}
use Rattle.nim_meaning.specs.Deeds.{Opens, changed, carry}
use Rattle.nim_meaning.specs.Here.{Here, is_hooked}
use Rattle.nim_meaning.specs.Aims.{Aim, find}
use Rattle.nim_meaning.specs.Places.{item_at}
use Rattle.nim_meaning.specs.Steps.{at_node}
use Rattle.nim_meaning.specs.Meaning.{while_turn, count_turn, each_turn, still, element_at, element_for, fill, scoped}
use Rattle.holders.specs.Owned.{Full, Constant, Has}
use Rattle.holders.specs.Sure.{Comes}
use Rattle.holders.specs.Called.{LeftBy}
use Rattle.holders.specs.Territory.{Owner, NoBaseOf}
use Rattle.holders.specs.Handing.{UnderWay}
use Rattle.holders.specs.Running.{Region}
use Rattle.holders.specs.Staging.{Stage, Holding}
use Rattle.holders.proofs.Owning.{plain_anywhere}
use Rattle.holders.proofs.PlainRows.{none_clear}
use Rattle.holders.proofs.Staging.{stage_declares}
use Rattle.holders.proofs.Coming.{comes_weaker, comes_then, comes_loop, comes_again, Turned}
use Rattle.holders.specs.Becoming.{none}

-- a value without blocks is under way anywhere
pub plain_under : {os : List Owner} {blocks : List ℕ} {world : World} {f : Form} {v : Value} {bs : List ℕ} → hooked f ≡ false → Has world Constant f v bs →
    UnderWay f v os blocks world
plain_under {os} {world = world} bare h = record {
  given = [];
  has = plain_anywhere world Full bare h;
  distinct = tt;
  strange = λ k m n. elim m [ ];
  clear = none_clear os;
}

pub plain_held : {r : Region} {ms gs : List Owner} {first places : ℕ} {nodes old : List ℕ} {start now : World} {f : Form} {v : Value} {bs : List ℕ} →
    hooked f ≡ false → Has now Constant f v bs → Stage r ms gs first places nodes old start now →
    Holding f v r ms gs first places nodes old start now
unfolding plain_under
plain_held bare h s = record { out = none; stage = s; under = plain_under bare h; came = λ k m. elim m [ ]; out_is = λ k. omega arith }

-- ---- places

-- a declared place is filled
pub fill_comes : {r : Region} {ms gs : List Owner} {first places : ℕ} {nodes old : List ℕ} {start : World} {f : Form} {v : Value} (here : Here) (n : ℕ)
    (X : Exit → World → Type 0) → here.level ≡ r.level → (s : State) → Holding f v r ms gs first places nodes old start s.world → first ≤ n →
    n < first + places → r.places n ≡ true → NoBaseOf (Standing r.level n) (ms ++ gs) →
    Comes (λ u after. Stage r (record { form = f; at = at_base (Standing r.level n) } ∷ ms) gs first places nodes old start after) X (fill here n v s)
fill_comes {r} {ms} {gs} {first} {places} {nodes} {old} {start} {f} {v} here n X level_is s h le less mine off =
    subst (λ l. Stage r (record { form = f; at = at_base (Standing r.level n) } ∷ ms) gs first places nodes old start (changed (Opens l n (Holds v)) s.world))
    (sym level_is) (stage_declares r gs first places old start n h le less mine off)

-- ---- loops

-- As long as its test holds. What is so of the world stays so.
pub while_comes : (node : ℕ) (test : Does Value) (body : Does (Unit {0})) (J : World → Type 0) →
    ((now : State) → J now.world → Comes (λ x after. J after) (LeftBy J) (test now)) →
    ((now : State) → J now.world → Comes (λ u after. J after) (LeftBy J) (body now)) → (s : State) → J s.world →
    Comes (λ u after. J after) (LeftBy J) (loop (while_turn node test body) tt s)
while_comes node test body J tests bodies s j =
    comes_loop (while_turn node test body) (λ u. J) (λ u. J) (LeftBy J) tt s (λ u now i. one now i) j
  where
    chosen : (b : Bool) (now : State) → J now.world →
        Comes (Turned (λ (u : Unit {0}). J) (λ (u : Unit {0}). J)) (LeftBy J) (branch b (again body tt) no_more now)
    chosen true now i = comes_again body tt J (λ u. J) now (λ later e. bodies later (subst J (sym e) i)) (λ later k. k)
    chosen false now i = i

    one : (now : State) → J now.world → Comes (Turned (λ (u : Unit {0}). J) (λ (u : Unit {0}). J)) (LeftBy J) (while_turn node test body tt now)
    one now i =
        comes_then (at_node node points.Turns test) (λ x. at_node node points.Chooses (branch (is_true (number_of x)) (again body tt) no_more))
        (λ x after. J after) (Turned (λ (u : Unit {0}). J) (λ (u : Unit {0}). J)) (LeftBy J) now (tests (with_trail (Spot node points.Turns ∷ now.trail) now) i)
        (λ x later k. chosen (is_true (number_of x)) (with_trail (Spot node points.Chooses ∷ later.trail) later) k)

-- Over a range: a place is filled at each turn, and is over at its end.
pub count_comes : (node : ℕ) (here : Here) (place : Declared) (last : ℕ) (body : Does (Unit {0})) (limit : ℤ) (J K : World → Type 0) →
    ((i : ℤ) (now : State) → J now.world → Comes (λ u after. K after) (λ way after. ⊥) (fill here place.number (Number i) now)) →
    ((now : State) → K now.world → Comes (λ u after. J after) (LeftBy J) (scoped here place last body now)) → (i : ℤ) (s : State) → J s.world →
    Comes (λ u after. J after) (LeftBy J) (loop (count_turn node here place last body limit) i s)
count_comes node here place last body limit J K fills scopes i s j =
    comes_loop (count_turn node here place last body limit) (λ i. J) (λ u. J) (LeftBy J) i s (λ i now j. one i now j) j
  where
    filled : (i : ℤ) → Does (Unit {0})
    filled i = at_node node points.Fills (fill here place.number (Number i)) >> scoped here place last body

    fills_so : (i : ℤ) (now : State) → J now.world → Comes (λ u after. K after) (LeftBy J) (fill here place.number (Number i) now)
    fills_so i now j = comes_weaker (λ u after. K after) (λ way after. ⊥) (λ u after. K after) (LeftBy J)
        (fill here place.number (Number i) now) (fills i now j) (λ u later k. k) (λ way later k. absurd k)

    body_so : (i : ℤ) (now : State) → J now.world → Comes (λ u after. J after) (LeftBy J) (filled i now)
    body_so i now j =
        comes_then (at_node node points.Fills (fill here place.number (Number i))) (λ u. scoped here place last body) (λ u after. K after) (λ u after. J after)
        (LeftBy J) now (fills_so i (with_trail (Spot node points.Fills ∷ now.trail) now) j) (λ u later k. scopes later k)

    chosen : (b : Bool) (i : ℤ) (now : State) → J now.world →
        Comes (Turned (λ (i : ℤ). J) (λ (u : Unit {0}). J)) (LeftBy J) (branch b (again (filled i) (i +ℤ pos 1)) no_more now)
    chosen true i now j = comes_again (filled i) (i +ℤ pos 1) J (λ i. J) now (λ later e. body_so i later (subst J (sym e) j)) (λ later k. k)
    chosen false i now j = j

    one : (i : ℤ) (now : State) → J now.world →
        Comes (Turned (λ (i : ℤ). J) (λ (u : Unit {0}). J)) (LeftBy J) (count_turn node here place last body limit i now)
    one i now j =
        chosen (int_lt i limit) i (with_trail (Spot node points.Chooses ∷ (with_trail (Spot node points.Turns ∷ now.trail) now).trail)
        (with_trail (Spot node points.Turns ∷ now.trail) now)) j

-- Over elements: at each turn they are found anew, and are as many as at first. L is so of where they are found, M where they are as many, N of an
-- element, V of a value that is read.
pub each_comes : (node : ℕ) (here : Here) (place : Declared) (borrows : Bool) (last : ℕ) (body : Does (Unit {0})) (aim : Aim) (len : ℕ) (J K : World → Type 0)
    (L M N : Location → World → Type 0) (V : Value → World → Type 0) →
    ((now : State) → J now.world → Comes L (LeftBy J) (find aim now)) →
    ((l : Location) (now : State) → L l now.world → Comes (λ u after. M l after) (LeftBy J) (still l len now)) →
    (is_hooked here.facts place.of ≡ true → (i : ℕ) → nat_lt i len ≡ true → (l : Location) (now : State) → M l now.world →
    Comes N (LeftBy J) (carry (item_at l i) now)) →
    (is_hooked here.facts place.of ≡ true → (item : Location) (now : State) → N item now.world →
    Comes (λ u after. K after) (LeftBy J) (element_for here place borrows item now)) →
    (is_hooked here.facts place.of ≡ false → (i : ℕ) → nat_lt i len ≡ true → (l : Location) (now : State) → M l now.world →
    Comes V (LeftBy J) (element_at l i now)) →
    (is_hooked here.facts place.of ≡ false → (v : Value) (now : State) → V v now.world →
    Comes (λ u after. K after) (LeftBy J) (fill here place.number v now)) →
    ((now : State) → K now.world → Comes (λ u after. J after) (LeftBy J) (scoped here place last body now)) → (i : ℕ) (s : State) → J s.world →
    Comes (λ u after. J after) (LeftBy J) (loop (each_turn node here place borrows last body aim len) i s)
each_comes node here place borrows last body aim len J K L M N V finds stays items fills reads sets scopes i s j =
    comes_loop (each_turn node here place borrows last body aim len) (λ i. J) (λ u. J) (LeftBy J) i s (λ i now j. one i now j) j
  where
    On_turn : Turn ℕ (Unit {0}) → World → Type 0
    On_turn = Turned (λ (i : ℕ). J) (λ (u : Unit {0}). J)

    Left : Exit → World → Type 0
    Left = LeftBy J

    at_end : ℕ → Does (Turn ℕ (Unit {0}))
    at_end i = again (scoped here place last body) (suc i)

    end_so : (i : ℕ) (now : State) → K now.world → Comes On_turn Left (at_end i now)
    end_so i now k = comes_again (scoped here place last body) (suc i) J (λ i. J) now (λ later e. scopes later (subst K (sym e) k)) (λ later j. j)

    one_with : ℕ → Location → Does (Turn ℕ (Unit {0}))
    one_with i l = at_node node points.Does (carry (item_at l i)) >>= (λ item.
        at_node node points.Fills (element_for here place borrows item) >> at_end i)

    one_read : ℕ → Location → Does (Turn ℕ (Unit {0}))
    one_read i l = at_node node points.Does (element_at l i) >>= (λ v. at_node node points.Fills (fill here place.number v) >> at_end i)

    with_so : is_hooked here.facts place.of ≡ true → (i : ℕ) → nat_lt i len ≡ true → (l : Location) (now : State) → M l now.world →
        Comes On_turn Left (one_with i l now)
    with_so h i less l now m =
        comes_then (at_node node points.Does (carry (item_at l i))) (λ item. at_node node points.Fills (element_for here place borrows item) >> at_end i)
        N On_turn Left now (items h i less l (with_trail (Spot node points.Does ∷ now.trail) now) m)
        (λ item then n. comes_then (at_node node points.Fills (element_for here place borrows item)) (λ u. at_end i) (λ u after. K after) On_turn Left then
        (fills h item (with_trail (Spot node points.Fills ∷ then.trail) then) n) (λ u later k. end_so i later k))

    read_so : is_hooked here.facts place.of ≡ false → (i : ℕ) → nat_lt i len ≡ true → (l : Location) (now : State) → M l now.world →
        Comes On_turn Left (one_read i l now)
    read_so h i less l now m =
        comes_then (at_node node points.Does (element_at l i)) (λ v. at_node node points.Fills (fill here place.number v) >> at_end i)
        V On_turn Left now (reads h i less l (with_trail (Spot node points.Does ∷ now.trail) now) m)
        (λ v then n. comes_then (at_node node points.Fills (fill here place.number v)) (λ u. at_end i) (λ u after. K after) On_turn Left then
        (sets h v (with_trail (Spot node points.Fills ∷ then.trail) then) n) (λ u later k. end_so i later k))

    by : (b : Bool) → is_hooked here.facts place.of ≡ b → (i : ℕ) → nat_lt i len ≡ true → (l : Location) (now : State) → M l now.world →
        Comes On_turn Left (branch b (one_with i l) (one_read i l) now)
    by true h i less l now m = with_so h i less l now m
    by false h i less l now m = read_so h i less l now m

    element : ℕ → Location → Does (Turn ℕ (Unit {0}))
    element i l = branch (is_hooked here.facts place.of) (one_with i l) (one_read i l)

    chosen : (b : Bool) (i : ℕ) → nat_lt i len ≡ b → (now : State) → J now.world →
        Comes On_turn Left (branch b (find aim >>= (λ l. still l len >> element i l)) no_more now)
    chosen true i less now j =
        comes_then (find aim) (λ l. still l len >> element i l) L On_turn Left now (finds now j)
        (λ l then p. comes_then (still l len) (λ u. element i l) (λ u after. M l after) On_turn Left then (stays l then p)
        (λ u later m. by (is_hooked here.facts place.of) refl i less l later m))
    chosen false i less now j = j

    one : (i : ℕ) (now : State) → J now.world → Comes On_turn Left (each_turn node here place borrows last body aim len i now)
    one i now j =
        chosen (nat_lt i len) i refl (with_trail (Spot node points.Chooses ∷ (with_trail (Spot node points.Turns ∷ now.trail) now).trail)
        (with_trail (Spot node points.Turns ∷ now.trail) now)) j
