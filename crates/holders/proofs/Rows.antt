-- What operations do with the cells of a territory, and with values that are under way.
use Rattle.std.proofs.Common.{◌≡◌, refl, sym, subst, Bool, true, false, arith, ℕ, suc, ◌<◌, ◌≤◌, inl, inr, ◌⊎◌, List, [], ◌∷◌, length, Some, ◌+◌}
use Rattle.std.specs.Prelude.{slice_get}
use Rattle.std.proofs.lemmas.Option.{none-some}
use Rattle.nim_types.specs.Forms.{Form, plain, block, elements, hooked}
use Rattle.nim_meaning.specs.Values.{Value, count, Values, length_of, Base, InBlock, InHand, Location, Given}
use Rattle.nim_meaning.specs.Heap.{Elements}
use Rattle.nim_meaning.specs.Marks.{Member, Distinct}
use Rattle.nim_meaning.specs.State.{World}
use Rattle.nim_meaning.specs.Deeds.{Deed, give, ◌>>◌}
use Rattle.nim_meaning.specs.Lifted.{assigned, copied, fresh, fresh_text}
use Rattle.nim_meaning.specs.OwnedRows.{appended, added, shortened, sequence_to, line_into}
use Rattle.nim_meaning.specs.Places.{exchanged, changes}
use Rattle.holders.specs.Holders.{held_by, held_in}
use Rattle.holders.specs.Owned.{IsBase, in_hand, Full, Has, HasEach, Apart, HasBlocksAlone}
use Rattle.holders.specs.Sure.{Sure}
use Rattle.holders.specs.Becoming.{taken_in, Becomes, Gives, KeepsHolders, Strange, Turns, none, times, BecomesWith}
use Rattle.holders.specs.Walks.{Popped}
use Rattle.holders.specs.Territory.{Owner, AllOwners, ClearOf, Territory, Alone, Moves, Owns, MovesWith}
use Rattle.holders.specs.Ways.{Chain}
use Rattle.holders.specs.Finding.{Read}
use Rattle.holders.specs.Handing.{UnderWay, HandsOut}
use Rattle.holders.proofs.Sure.{sure_then, sure_weaker}
use Rattle.holders.proofs.Growing.{sure_grows}
use Rattle.holders.proofs.Owning.{has_stays, plain_none}
use Rattle.holders.proofs.UnderWay.{Assigned, assigns_given, copy_given, no_block}
use Rattle.holders.proofs.TextRows.{appends}
use Rattle.holders.proofs.SequenceRows.{adds, pops, sequence_gets_length}
use Rattle.holders.proofs.Answering.{text_made, sequence_made, line_goes_into}
use Rattle.holders.proofs.Moving.{clear_less, cells_clear, cells_below}
use Rattle.holders.proofs.Working.{cells_stay}
use Rattle.holders.proofs.Separating.{separated}
use Rattle.holders.proofs.Finding.{chain_owns}
use Rattle.holders.proofs.PlainRows.{becomes_put, cell_moves, none_clear}
use Rattle.holders.proofs.BareCells.{bare_given}
use Rattle.holders.proofs.Letters.{hooked_cell}
use Rattle.holders.proofs.Guards.{sure_takes, sure_changes, read_there}

-- ---- a value comes to be

module _ {os : List Owner} {world : World} (t : Territory os world) where
  units : (os : List Owner) → AllOwners (λ o. Unit {0}) os
  units [] = tt
  units (o ∷ os) = (tt, units os)

  -- where all that stood somewhere still does
  pub all_stays_there : {f : Form} {x : Value} {given : List ℕ} {after : World} → (g : Gives f x given world after) →
      MovesWith (λ k. times k given) (λ k. times k g.blocks) os [] t.blocks world after
  all_stays_there {f} {x} {given} {after} g =
      let al : Alone [] [] world after = record {
        bases = λ b y h off far. g.elsewhere b y h;
        parts = λ l v h other far. record {
          whole = h.whole;
          at = record { base = g.elsewhere l.base h.whole h.at.base; part = h.at.part; may = h.at.may };
          is = h.is;
        };
        rows = λ l n r leave far. record {
          whole = r.whole;
          base = g.elsewhere l.base r.whole r.base;
          part_there = r.part_there;
          is = r.is;
        };
        stays = g.stays;
      } in
      record {
        territory = record {
          blocks = t.blocks;
          cells = cells_stay [] [] world after al os t.blocks t.cells (units os) (none_clear os) tt (λ k m n. elim n [ ]);
          distinct = t.distinct;
          others = t.others;
          clear = t.clear;
        };
        came = λ k m. inl m;
        grows = g.grows;
        alone = record {
          bases = λ b y h off far. al.bases b y h tt (λ k e m. elim m [ ]);
          parts = λ l v h other far. al.parts l v h tt (λ k e m. elim m [ ]);
          rows = λ l n r leave far. al.rows l n r tt (λ k e m. elim m [ ]);
          stays = g.stays;
        };
        loses = λ k. omega (arith, g.loses k);
      }

  too_far : (k : ℕ) → k < taken_in world → taken_in world ≤ k → ⊥
  too_far k less le = omega (arith, less, le)

  -- of values that were under way
  pub comes_to_be : {f : Form} {x : Value} {given : List ℕ} {after : World} → Gives f x given world after → Strange given t.blocks → ClearOf given os →
      HandsOut f os given t.blocks world x after
  unfolding all_stays_there
  comes_to_be {f} {x} {given} {after} g far far_clear = record {
    goes = λ k. times k g.blocks;
    moves = all_stays_there g;
    value = record {
      given = g.blocks;
      has = g.has;
      distinct = g.distinct;
      strange = λ k m n. by k n (g.came k m);
      clear = cells_clear os t.blocks [] given g.blocks t.cells (none_clear os) far_clear (λ k m. wide k (g.came k m));
    };
    came = λ k m. inr (g.came k m);
    goes_is = λ k. omega arith;
  }
    where
      by : (k : ℕ) → Member k t.blocks → Member k given ⊎ (taken_in world ≤ k) → ⊥
      by k n (inl m) = far k m n
      by k n (inr le) = too_far k (cells_below os t.blocks t.cells k n) le

      wide : (k : ℕ) → Member k given ⊎ (taken_in world ≤ k) → Member k [] ⊎ (Member k given ⊎ (taken_in world ≤ k))
      wide k m = inr m

  pub copies_out : {f : Form} {l : Location} → Read f l world → Sure (copied f l) (HandsOut f os [] t.blocks world) world
  copies_out {f} {l} r =
      sure_weaker (copied f l) (λ x after. Gives f x [] world after × KeepsHolders none (λ k. held_by k x) world after) (HandsOut f os [] t.blocks world) world
      (copy_given f l r.stands_in r.value r.blocks world r.from r.has) (λ x after g. comes_to_be g.0 (λ k m n. elim m [ ]) (none_clear os))

  pub text_comes : (text : List ℕ) → Sure (fresh_text text) (HandsOut block os [] t.blocks world) world
  text_comes text =
      sure_weaker (fresh_text text) (λ x after. Gives block x [] world after × KeepsHolders none (λ k. held_by k x) world after)
      (HandsOut block os [] t.blocks world) world (text_made text world) (λ x after g. comes_to_be g.0 (λ k m n. elim m [ ]) (none_clear os))

  pub sequence_comes : (f : Form) (vs : Values) (ds : List ℕ) (n : ℕ) → HasEach world Full f (count vs) 0 vs ds → Distinct ds → Strange ds t.blocks →
      ClearOf ds os → Sure (fresh (count vs) n (Elements vs)) (HandsOut (elements f) os ds t.blocks world) world
  sequence_comes f vs ds n each d far clear =
      sure_weaker (fresh (count vs) n (Elements vs))
      (λ x after. Gives (elements f) x ds world after × KeepsHolders (λ k. held_in k vs) (λ k. held_by k x) world after)
      (HandsOut (elements f) os ds t.blocks world) world (sequence_made f vs ds n world each d) (λ x after g. comes_to_be g.0 far clear)

  -- ---- one cell

  -- its base is none of the blocks of what is under way
  pub base_apart : {o : Owner} (c : Chain os world o) (given : List ℕ) → Strange given t.blocks → ClearOf given os → Apart o.at.base given
  base_apart {o} c given far clear = ((separated {targets = λ j. o} 1 t (λ j a. c) (λ j l a b d. absurd (only j l a b d))).clear given far clear).0
    where
      only : (j l : ℕ) → j < 1 → l < 1 → (j ≡ l → ⊥) → ⊥
      only j l a b d = d (omega (arith, a, b))

  module _ {f : Form} {l : Location} (c : Chain os world (record { form = f; at = l })) where
    abbrev own : Owns os t.blocks (record { form = f; at = l }) world
    own = chain_owns t c

    -- a value of plain form is answered, or none
    pub in_place : {A : Type 0} (deed : Deed A) (P : A → World → Type 0) →
        Sure deed (λ x after. P x after × Becomes f l own.stands_in [] own.mine world after) world →
        Sure deed (λ x after. P x after × Moves os [] t.blocks world after) world
    in_place deed P h =
        sure_weaker deed (λ x after. P x after × Becomes f l own.stands_in [] own.mine world after) (λ x after. P x after × Moves os [] t.blocks world after)
        world h (λ x after r. (r.0, cell_moves own r.1))

    pub turns_in_place : {A : Type 0} (deed : Deed A) → Sure deed (λ x after. Turns none none f l own.stands_in [] own.mine world after) world →
        Sure deed (λ x after. Moves os [] t.blocks world after) world
    turns_in_place deed h =
        sure_weaker deed (λ x after. Turns none none f l own.stands_in [] own.mine world after) (λ x after. Moves os [] t.blocks world after)
        world h (λ x after r. cell_moves own r.0)

    -- a value that was under way goes into it
    module _ {g : Form} {x : Value} (under : UnderWay g x os t.blocks world) where
      pub strange_here : Strange under.given own.mine
      strange_here k m n = under.strange k m (own.within k n)

      pub apart_here : Apart l.base under.given
      apart_here = base_apart c under.given under.strange under.clear

      pub goes_in : {A : Type 0} (deed : Deed A) → Sure deed (λ y after. Becomes f l own.stands_in under.given own.mine world after) world →
          Sure deed (λ y after. Moves os under.given t.blocks world after) world
      goes_in deed h =
          sure_weaker deed (λ y after. Becomes f l own.stands_in under.given own.mine world after) (λ y after. Moves os under.given t.blocks world after)
          world h (λ y after b. own.moves under.given after under.strange under.clear b)

  -- ---- rows

  pub appends_to : (more : List ℕ) {l : Location} → Chain os world (record { form = block; at = l }) →
      Sure (appended more l) (λ u after. Moves os [] t.blocks world after) world
  appends_to more {l} c =
      let o = chain_owns t c in
      let d = hooked_cell refl o.cell in
      turns_in_place c (appended more l) (appends more l o.stands_in o.value o.mine world d.at d.is d.has d.apart)

  pub sets_length : {f : Form} → HasBlocksAlone f → (n : ℕ) {l : Location} → Chain os world (record { form = elements f; at = l }) →
      Sure (sequence_to f n l world) (λ u after. Moves os [] t.blocks world after) world
  sets_length {f} simple n {l} c =
      let o = chain_owns t c in
      let d = hooked_cell refl o.cell in
      turns_in_place c (sequence_to f n l world)
      (sequence_gets_length f simple n l o.stands_in o.value o.mine world d.at d.is d.has d.distinct d.apart)

  pub reads_line : (input : List ℕ) {l : Location} → Chain os world (record { form = block; at = l }) →
      Sure (line_into l input) (λ x after. Has after Full plain x [] × Moves os [] t.blocks world after) world
  reads_line input {l} c =
      let o = chain_owns t c in
      let d = hooked_cell refl o.cell in
      in_place c (line_into l input) (λ x after. Has after Full plain x [])
      (sure_weaker (line_into l input) (λ x after. Has after Full plain x [] × Turns none none block l o.stands_in [] o.mine world after)
      (λ x after. Has after Full plain x [] × Becomes block l o.stands_in [] o.mine world after) world
      (line_goes_into input l o.stands_in o.value o.mine world d.at d.is d.has d.distinct d.apart) (λ x after r. (r.0, r.1.0)))

  -- an element comes behind those that are there
  pub adds_to : {f : Form} {x : Value} {l : Location} (c : Chain os world (record { form = elements f; at = l })) (under : UnderWay f x os t.blocks world) →
      Sure (added f x l) (λ u after. Moves os under.given t.blocks world after) world
  adds_to {f} {x} {l} c under =
      let o = chain_owns t c in
      let d = hooked_cell refl o.cell in
      goes_in c under (added f x l)
      (sure_weaker (added f x l) (λ u after. Turns (λ j. held_by j x) none (elements f) l o.stands_in under.given o.mine world after)
      (λ u after. Becomes (elements f) l o.stands_in under.given o.mine world after) world
      (adds f x under.given l o.stands_in o.value o.mine world d.at d.is d.has d.distinct d.apart under.has under.distinct
      (strange_here c under) (apart_here c under)) (λ u after r. r.0))

  -- a place gets a value that was under way
  pub takes_value : {f : Form} {x : Value} {l : Location} (c : Chain os world (record { form = f; at = l })) (under : UnderWay f x os t.blocks world) →
      Sure (assigned f l (Given x)) (λ u after. Moves os under.given t.blocks world after) world
  takes_value {f} {x} {l} c under =
      goes_in c under (assigned f l (Given x)) (by (hooked f) refl)
    where
      -- nothing is in hand yet at the next position
      beyond : {A : Type 0} (xs : List A) (x : A) → slice_get xs (length xs) ≡ Some x → ⊥
      beyond [] x e = none-some x e
      beyond (y ∷ xs) x e = beyond xs x e

      not_in_hand : (b : Base) (w : Value) → b ≡ InHand (length world.hand) → IsBase world b w → ⊥
      not_in_hand b w e h = at (subst (λ c. IsBase world c w) e h)
        where
          at : IsBase world (InHand (length world.hand)) w → ⊥
          at (in_hand q) = beyond world.hand w q

      by : (b : Bool) → hooked f ≡ b → Sure (assigned f l (Given x)) (λ u after. Becomes f l (chain_owns t c).stands_in under.given (chain_owns t c).mine world
          after) world
      by false e =
          let o = chain_owns t c in
          subst (λ ds. Sure (assigned f l (Given x)) (λ u after. Becomes f l o.stands_in ds o.mine world after) world) (sym (plain_none e under.has))
          (bare_given f l o.stands_in o.value x o.mine under.given e world o.cell under.has)
      by true e =
          let o = chain_owns t c in
          let d = hooked_cell e o.cell in
          let far = strange_here c under in
          let apart = apart_here c under in
          sure_weaker (assigned f l (Given x)) (λ u after. Assigned f l o.stands_in x o.mine under.given world after × (taken_in world ≤ taken_in after))
          (λ u after. Becomes f l o.stands_in under.given o.mine world after) world
          (sure_grows (assigned f l (Given x)) (λ u after. Assigned f l o.stands_in x o.mine under.given world after) world
          (assigns_given f l o.stands_in o.value x o.mine under.given world d.at d.is d.has under.has (record {
            two = λ q. not_in_hand l.base o.stands_in q d.at.base;
            old_once = d.distinct;
            new_once = under.distinct;
            both = λ k m n. far k n m;
            to_old = d.apart;
            to_new = apart;
            from_old = λ k q m. no_block (length world.hand) k q;
            from_new = λ k q m. no_block (length world.hand) k q;
          })))
          (λ u after r. record {
            now = x;
            blocks = under.given;
            has = r.0.has;
            distinct = under.distinct;
            came = λ k m. inr (inl m);
            grows = r.1;
            loses = λ k. omega (arith, r.0.loses k);
            is = r.0.there;
            elsewhere = λ b y h off away. r.0.elsewhere b y h off away;
            stays = r.0.stays;
          })

  -- ---- a value comes out

  -- of fewer blocks than were there
  fewer : {f : Form} {l : Location} {w : Value} {given old : List ℕ} {after : World} (taken kept : List ℕ) → ((k : ℕ) → Member k kept → Member k old) →
      ((k : ℕ) → times k taken + times k kept ≡ times k old) → Becomes f l w given kept world after →
      BecomesWith (λ k. times k taken) f l w given old world after
  fewer {given = given} {old = old} taken kept within were b = record {
    now = b.now;
    blocks = b.blocks;
    has = b.has;
    distinct = b.distinct;
    came = λ k m. wide k (b.came k m);
    grows = b.grows;
    loses = λ k. omega (arith, b.loses k, were k);
    is = b.is;
    elsewhere = λ c y h off far. b.elsewhere c y h off (λ k e m. far k e (within k m));
    stays = b.stays;
  }
    where
      wide : (k : ℕ) → Member k kept ⊎ (Member k given ⊎ (taken_in world ≤ k)) → Member k old ⊎ (Member k given ⊎ (taken_in world ≤ k))
      wide k (inl m) = inl (within k m)
      wide k (inr q) = inr q

  module _ {f g : Form} {l : Location} (c : Chain os world (record { form = f; at = l })) {x : Value} {after : World} (taken kept : List ℕ)
      (h : Has after Full g x taken) (d : Distinct taken) (taken_were : (k : ℕ) → Member k taken → Member k (chain_owns t c).mine)
      (kept_were : (k : ℕ) → Member k kept → Member k (chain_owns t c).mine) (apart : (k : ℕ) → Member k taken → Member k kept → ⊥)
      (were : (k : ℕ) → times k taken + times k kept ≡ times k (chain_owns t c).mine) (b : Becomes f l (chain_owns t c).stands_in [] kept world after) where
    pub comes_out : HandsOut g os [] t.blocks world x after
    unfolding fewer
    comes_out =
        let o = chain_owns t c in
        let wide = fewer taken kept kept_were were b in
        let none_far : Strange [] t.blocks = λ k m n. elim m [ ] in
        record {
          goes = λ k. times k taken;
          moves = o.moves [] after none_far (none_clear os) wide;
          value = record {
            given = taken;
            has = h;
            distinct = d;
            strange = λ k m n. lost k m (b.came k (o.without [] after none_far (none_clear os) wide k n (taken_were k m)));
            clear = clear_less t.blocks taken os (λ k m. o.within k (taken_were k m)) t.clear;
          };
          came = λ k m. inl (o.within k (taken_were k m));
          goes_is = λ k. omega arith;
        }
      where
        lost : (k : ℕ) → Member k taken → Member k kept ⊎ (Member k [] ⊎ (taken_in world ≤ k)) → ⊥
        lost k m (inl n) = apart k m n
        lost k m (inr (inl n)) = elim n [ ]
        lost k m (inr (inr le)) = too_far k (cells_below os t.blocks t.cells k ((chain_owns t c).within k (taken_were k m))) le

  -- a place gives its value away, and gets one without blocks
  pub gives_away : {f : Form} {x : Value} {l : Location} (c : Chain os world (record { form = f; at = l })) → Has world Full f x [] →
      Sure (exchanged l x) (HandsOut f os [] t.blocks world) world
  gives_away {f} {x} {l} c h =
      let o = chain_owns t c in
      let P : World → Type 0 = λ after. Becomes f l o.stands_in [] [] world after in
      sure_takes (λ world old. changes l x >> give old) (HandsOut f os [] t.blocks world) (read_there o.cell.at o.cell.is) tt o.cell.has
      (sure_then (changes l x) (λ u. give o.value) (λ u after. P after) (HandsOut f os [] t.blocks world) world
      (sure_changes x (λ u after. P after) o.cell.at (becomes_put f l o.stands_in x [] world o.cell.at h tt (λ k e m. elim m [ ])))
      (λ u after b. comes_out c o.mine [] (has_stays world after (λ k z m is. b.elsewhere (InBlock k) z is (λ e. o.cell.apart k (sym e) m)
      (λ j e n. elim n [ ])) o.cell.has) o.cell.distinct (λ k m. m) (λ k m. elim m [ ]) (λ k m n. elim n [ ]) (λ k. omega arith) b))

  -- a sequence loses its last element
  pub pops_from : {f : Form} {l : Location} (n : ℕ) (c : Chain os world (record { form = elements f; at = l })) → length_of (chain_owns t c).value ≡ suc n →
      Sure (shortened f (suc n) l world) (HandsOut f os [] t.blocks world) world
  pops_from {f} {l} n c e =
      let o = chain_owns t c in
      let d = hooked_cell refl o.cell in
      sure_weaker (shortened f (suc n) l world) (λ x after. Popped f l o.stands_in o.mine world x after) (HandsOut f os [] t.blocks world) world
      (pops f n l o.stands_in o.value o.mine world d.at d.is d.has d.distinct d.apart e)
      (λ x after p. comes_out c p.taken p.kept p.has p.distinct p.taken_were p.kept_were p.apart p.were p.turns.0)
