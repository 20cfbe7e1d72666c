-- Two places: one gets a copy of what stands in the other, or they trade.
use Rattle.std.proofs.Common.{◌≡◌, refl, sym, ap, subst, ◌∙◌, arith, ℕ, zero, suc, ◌+◌, ◌<◌, ◌≤◌, inl, inr, ◌⊎◌, Bool, true, false, List, [], ◌∷◌, ◌++◌}
use Rattle.nim_types.specs.Forms.{Form, plain, reference, block, elements, row, parts, resource, wrapped, Forms, no_forms, forms, hooked}
use Rattle.nim_meaning.specs.Values.{Value, nothing, part, put_part, Base, InBlock, Made, Location, deeper, At as Place}
use Rattle.nim_meaning.specs.Marks.{Member, Distinct}
use Rattle.nim_meaning.specs.State.{World, whole_at, store}
use Rattle.nim_meaning.specs.Deeds.{takes, give, ◌>>◌}
use Rattle.nim_meaning.specs.Lifted.{assigned, walk, assigning}
use Rattle.nim_meaning.specs.Places.{exchanged, changes}
use Rattle.nim_meaning.specs.Table.{swapped}
use Rattle.holders.specs.Owned.{IsBase, MayStore, place_may, node_may, hand_may, block_may, From, Full, Constant, Has, Apart, PartForm, first_part}
use Rattle.holders.specs.Owned.{next_part, Lies, Keeps}
use Rattle.holders.specs.Sure.{Sure}
use Rattle.holders.specs.Becoming.{Becomes, Turns, none}
use Rattle.holders.specs.Beside.{PartWays, here_apart, further_on, OtherPart, other_base}
use Rattle.holders.specs.Territory.{Owner, Cells, no_cells, a_cell, LieApart, ClearOf, Territory, StandsAt, Moves, Owns}
use Rattle.holders.specs.Working.{number, Works}
use Rattle.holders.specs.Ways.{copies, Opens, an_object, an_array, a_block, letters, Way, arrived, a_step, Chain, ChainsPart}
use Rattle.holders.proofs.Bases.{same_or_not}
use Rattle.holders.proofs.Sure.{sure_then, sure_weaker}
use Rattle.holders.proofs.Guards.{sure_takes, sure_changes, read_at, read_there}
use Rattle.holders.proofs.Staying.{stays_then, stored_stays}
use Rattle.holders.proofs.PathLemmas.{ways_back}
use Rattle.holders.proofs.Letters.{may_put, may_twice, put_there, put_aside, hooked_cell, stands_then}
use Rattle.holders.proofs.Owning.{in_first, in_second, has_stays, from_full, distinct_apart}
use Rattle.holders.proofs.Copying.{stored_length, distinct_both, either_block}
use Rattle.holders.proofs.Assigning.{assigns_self}
use Rattle.holders.proofs.AssigningBeside.{assigns_beside}
use Rattle.holders.proofs.Moving.{other_back, becomes_beside, head_moves}
use Rattle.holders.proofs.RowsLeft.{row_left}
use Rattle.holders.proofs.Working.{same_owner}
use Rattle.holders.proofs.Separating.{opens_same, separated}
use Rattle.holders.proofs.Finding.{chain_owns}
use Rattle.holders.proofs.PlainRows.{becomes_put, cell_moves, none_clear}
use Rattle.holders.proofs.BareCells.{bare_copied}
use Rattle.holders.proofs.Ledger.{stored_live, times_middle}

-- ---- forms are finite

abbrev mutual
  pub depth : Form → ℕ
  depth plain = 0
  depth reference = 0
  depth block = 1
  depth (elements f) = suc (depth f)
  depth (row n f) = suc (depth f)
  depth (parts fs) = suc (depth_all fs)
  depth (resource fs) = suc (depth_all fs)
  depth (wrapped f) = suc (depth f)

  depth_all : Forms → ℕ
  depth_all no_forms = 0
  depth_all (forms f fs) = depth f + depth_all fs

part_depth : {fs : Forms} {i : ℕ} {f : Form} → PartForm fs i f → depth f ≤ depth_all fs
part_depth first_part = omega arith
part_depth (next_part p) = omega (arith, part_depth p)

copies_form : (n : ℕ) {f g : Form} {i : ℕ} → PartForm (copies n f) i g → g ≡ f
copies_form zero p = elim p [ ]
copies_form (suc n) first_part = refl
copies_form (suc n) (next_part p) = copies_form n p

opens_depth : {world : World} {o : Owner} {fs : Forms} {from : Location} {i : ℕ} {f : Form} → Opens world o fs from → PartForm fs i f →
    depth f < depth o.form
opens_depth an_object p = omega (arith, part_depth p)
opens_depth (an_array {n = n}) p = omega (arith, ap depth (copies_form n p))
opens_depth (a_block {n = n} e) p = omega (arith, ap depth (copies_form n p))
opens_depth (letters {n = n} e) p = omega (arith, ap depth (copies_form n p))

way_depth : {world : World} {o m : Owner} {path : List ℕ} → Way world o m path → depth m.form ≤ depth o.form
way_depth arrived = omega arith
way_depth (a_step op p w) = omega (arith, opens_depth op p, way_depth w)

part_same : {fs : Forms} {i : ℕ} {f g : Form} → PartForm fs i f → PartForm fs i g → f ≡ g
part_same first_part first_part = refl
part_same (next_part p) (next_part q) = part_same p q

-- two ways to what is as deep lead to one cell, or part
ways_compared : {world : World} {o m n : Owner} {path other : List ℕ} → Way world o m path → Way world o n other → depth m.form ≡ depth n.form →
    (m ≡ n) ⊎ PartWays path other
ways_compared arrived arrived e = inl refl
ways_compared arrived (a_step op p w) e = absurd (omega (arith, e, opens_depth op p, way_depth w))
ways_compared (a_step op p w) arrived e = absurd (omega (arith, e, opens_depth op p, way_depth w))
ways_compared {world} {o} {m} {n} (a_step {fs = fs} {from = from} {i = i} {f = f} {path = path} op p w)
    (a_step {fs = gs} {from = there} {i = j} {f = g} {path = other} op2 q v) e = by (λ x. ways_compared w x e) (same_or_not i j)
  where
    deeper_on : (m ≡ n) ⊎ PartWays path other → i ≡ j → (m ≡ n) ⊎ PartWays (i ∷ path) (j ∷ other)
    deeper_on (inl s) q = inl s
    deeper_on (inr x) q = inr (subst (λ k. PartWays (i ∷ path) (k ∷ other)) q (further_on x))

    by : (Way world (record { form = f; at = deeper from i }) n other → (m ≡ n) ⊎ PartWays path other) → (i ≡ j) ⊎ (i ≡ j → ⊥) →
        (m ≡ n) ⊎ PartWays (i ∷ path) (j ∷ other)
    by rest (inr d) = inr (here_apart (λ z. d (sym z)))
    by rest (inl same) =
        let r = opens_same op op2 in
        let q2 : PartForm fs i g = subst (λ k. PartForm fs k g) (sym same) (subst (λ xs. PartForm xs j g) (sym r.forms_are) q) in
        let form_is : g ≡ f = part_same q2 p in
        let v2 : Way world (record { form = f; at = deeper from i }) n other =
        subst (λ h. Way world (record { form = h; at = deeper from i }) n other) form_is
        (subst (λ k. Way world (record { form = g; at = deeper from k }) n other) (sym same)
        (subst (λ l. Way world (record { form = g; at = deeper l j }) n other) (sym r.same_at) v)) in
        deeper_on (rest v2) same

pub chains_compared : {os : List Owner} {world : World} {m n : Owner} (a : Chain os world m) (b : Chain os world n) → depth m.form ≡ depth n.form →
    (m ≡ n) ⊎ ChainsPart a b
chains_compared {os} {world} {m} {n} a b e = by (same_or_not (number a.at) (number b.at))
  where
    one : ((m ≡ n) ⊎ PartWays a.path b.path) → (m ≡ n) ⊎ ChainsPart a b
    one (inl s) = inl s
    one (inr w) = inr (λ q. w)

    by : (number a.at ≡ number b.at) ⊎ (number a.at ≡ number b.at → ⊥) → (m ≡ n) ⊎ ChainsPart a b
    by (inr d) = inr (λ q. absurd (d q))
    by (inl same) =
        one (ways_compared a.way (subst (λ o. Way world o n b.path) (sym (same_owner a.at b.at same)) b.way) e)

-- ---- two cells alone

abbrev two_of : Owner → Owner → ℕ → Owner
two_of m n zero = m
two_of m n (suc j) = n

pub two_cells : {os : List Owner} {world : World} {m n : Owner} (t : Territory os world) (a : Chain os world m) (b : Chain os world n) → ChainsPart a b →
    Works os (n ∷ m ∷ []) t.blocks world
two_cells {os} {world} {m} {n} t a b part = separated {targets = two_of m n} 2 t chains all_part
  where
    chains : (j : ℕ) → j < 2 → Chain os world (two_of m n j)
    chains zero less = a
    chains (suc j) less = b

    not_two : (j l : ℕ) → suc j < 2 → suc l < 2 → (suc j ≡ suc l → ⊥) → ⊥
    not_two j l x y d = d (omega (arith, x, y))

    all_part : (j l : ℕ) (x : j < 2) (y : l < 2) → (j ≡ l → ⊥) → ChainsPart (chains j x) (chains l y)
    all_part zero zero x y d = absurd (d refl)
    all_part zero (suc l) x y d = part
    all_part (suc j) zero x y d = λ e. ways_back (part (sym e))
    all_part (suc j) (suc l) x y d = absurd (not_two j l x y d)

-- what lies apart
pub record TwoApart (m n : Owner) (old new : List ℕ) : Type 0 where
  pub ways : OtherPart n.at m.at
  pub both : (k : ℕ) → Member k old → Member k new → ⊥
  pub m_new : Apart m.at.base new
  pub n_old : Apart n.at.base old

pub record Two (m n : Owner) (blocks : List ℕ) (world : World) : Type 0 where
  pub u : Value
  pub v : Value
  pub old : List ℕ
  pub first : Keeps m.form m.at u v old world
  pub w : Value
  pub x : Value
  pub new : List ℕ
  pub second : Keeps n.form n.at w x new world
  pub apart : TwoApart m n old new
  pub is : blocks ≡ old ++ (new ++ [])
  pub others : LieApart (m ∷ n ∷ [])
  pub moves : (after : World) → Becomes m.form m.at u [] old world after → Moves (m ∷ n ∷ []) [] blocks world after

pub two_there : {m n : Owner} {world : World} (t : Territory (m ∷ n ∷ []) world) → Two m n t.blocks world
two_there {m} {n} {world} t = by t.blocks t.cells t.distinct t.others t.clear
  where
    by : (bs : List ℕ) → Cells world (m ∷ n ∷ []) bs → Distinct bs → LieApart (m ∷ n ∷ []) → ClearOf bs (m ∷ n ∷ []) → Two m n bs world
    by _ (a_cell {w = u} {v = v} {bs = old} c (a_cell {w = w} {v = x} {bs = new} d no_cells)) distinct others clear = record {
      u = u;
      v = v;
      old = old;
      first = c;
      w = w;
      x = x;
      new = new;
      second = d;
      apart = record {
        ways = others.0.0;
        both = λ k a b. distinct_apart k old (new ++ []) distinct a (in_first k new [] b);
        m_new = λ k e q. clear.0 k e (in_second k old (new ++ []) (in_first k new [] q));
        n_old = λ k e q. clear.1.0 k e (in_first k old (new ++ []) q);
      };
      is = refl;
      others = others;
      moves = λ after b. head_moves {bs = old} {cs = new ++ []} c (a_cell d no_cells) others clear distinct [] after (λ k m n. elim m [ ])
          (none_clear (m ∷ n ∷ [])) b;
    }

-- ---- a place gets a copy of another one

module _ {os : List Owner} {world : World} {f : Form} {to : Location} (t : Territory os world) (a : Chain os world (record { form = f; at = to })) where
  abbrev own : Owns os t.blocks (record { form = f; at = to }) world
  own = chain_owns t a

  abbrev Copied_over : World → Type 0
  Copied_over after = Moves os [] t.blocks world after

  -- bits alone
  bare_over : {from : Location} {u v : Value} {bs : List ℕ} → hooked f ≡ false → From world from u v → Has world Constant f v bs →
      Sure (assigned f to (Place from)) (λ x after. Copied_over after) world
  bare_over {from} {u} {v} {bs} bare source h =
      sure_weaker (assigned f to (Place from)) (λ x after. Becomes f to own.stands_in [] own.mine world after) (λ x after. Copied_over after) world
      (bare_copied f to own.stands_in own.value v own.mine bs bare from u world own.cell source h) (λ x after b. cell_moves own b)

  itself_over : hooked f ≡ true → Sure (assigned f to (Place to)) (λ x after. Copied_over after) world
  itself_over hooks =
      let c = hooked_cell hooks own.cell in
      sure_weaker (walk assigning f to to) (λ x after. Turns none none f to own.stands_in [] own.mine world after) (λ x after. Copied_over after) world
      (assigns_self f to own.stands_in own.value own.mine world c.at c.is c.has c.distinct c.apart) (λ x after s. cell_moves own s.0)

  -- of a constant
  pub constant_over : {from : Location} {u v constant : Value} → hooked f ≡ true → from.base ≡ Made constant → From world from u v → Has world Constant f v [] →
      Sure (assigned f to (Place from)) (λ x after. Copied_over after) world
  constant_over {from} {u} {v} hooks made source h =
      let c = hooked_cell hooks own.cell in
      sure_weaker (walk assigning f to from) (λ x after. Turns none none f to own.stands_in [] own.mine world after) (λ x after. Copied_over after) world
      (assigns_beside f to from own.stands_in u own.value v own.mine [] world c.at c.is c.has c.distinct c.apart source h (record {
        ways = other_base (λ e. not_made to.base to.path c.at.may (sym e ∙ made));
        both = λ k m n. elim n [ ];
        to_bs = λ k e m. elim m [ ];
        from_old = λ k e m. no_block k (sym made ∙ e);
      }))
      (λ x after s. cell_moves own s.0)
    where
      not_made : (b : Base) (path : List ℕ) {w : Value} → MayStore b path → b ≡ Made w → ⊥
      not_made b path may e = by may (subst is_made (sym e) tt)
        where
          is_made : Base → Type 0
          is_made (Made w) = Unit {0}
          is_made b = ⊥

          by : {b : Base} {path : List ℕ} → MayStore b path → is_made b → ⊥
          by place_may h = h
          by node_may h = h
          by hand_may h = h
          by block_may h = h

      no_block : {w : Value} (k : ℕ) → Made w ≡ InBlock k → ⊥
      no_block k e = subst is_made e tt
        where
          is_made : Base → Type 0
          is_made (Made w) = Unit {0}
          is_made b = ⊥

pub copies_over : {os : List Owner} {world : World} {f : Form} {to from : Location} (t : Territory os world)
    (a : Chain os world (record { form = f; at = to })) (b : Chain os world (record { form = f; at = from })) →
    Sure (assigned f to (Place from)) (λ x after. Moves os [] t.blocks world after) world
copies_over {os} {world} {f} {to} {from} t a b = by (hooked f) refl
  where
    here : Owner
    here = record { form = f; at = to }

    there : Owner
    there = record { form = f; at = from }

    beside : hooked f ≡ true → (works : Works os (here ∷ there ∷ []) t.blocks world) → Two here there works.territory.blocks world →
        Sure (assigned f to (Place from)) (λ x after. Moves os [] t.blocks world after) world
    beside hooks works two =
        let c = hooked_cell hooks two.first in
        let d = hooked_cell hooks two.second in
        sure_weaker (walk assigning f to from) (λ x after. Turns none none f to two.u [] two.old world after)
        (λ x after. Moves os [] t.blocks world after) world
        (assigns_beside f to from two.u two.w two.v two.x two.old two.new world c.at c.is c.has c.distinct c.apart (read_at d.at d.is) (from_full d.has)
        (record { ways = other_back two.apart.ways; both = two.apart.both; to_bs = two.apart.m_new; from_old = two.apart.n_old }))
        (λ x after s. (works.back [] after (λ k m n. elim m [ ]) (none_clear os) (two.moves after s.0)).moves)

    compared : hooked f ≡ true → (here ≡ there) ⊎ ChainsPart a b → Sure (assigned f to (Place from)) (λ x after. Moves os [] t.blocks world after) world
    compared hooks (inl e) = subst (λ (l : Location). Sure (assigned f to (Place l)) (λ x after. Moves os [] t.blocks world after) world)
        (ap (λ (o : Owner). o.at) e) (itself_over t a hooks)
    compared hooks (inr part) =
        let works = two_cells t b a (λ e. ways_back (part (sym e))) in
        beside hooks works (two_there works.territory)

    by : (c : Bool) → hooked f ≡ c → Sure (assigned f to (Place from)) (λ x after. Moves os [] t.blocks world after) world
    by false e =
        let source = chain_owns t b in
        bare_over t a e (read_there source.cell.at source.cell.is) (from_full source.cell.has)
    by true e = compared e (chains_compared a b refl)

-- ---- two places trade

-- the value that stands there is put there once more, as it stands then
module _ (f : Form) (l : Location) (w v : Value) (old : List ℕ) (world : World) (c : Keeps f l w v old world) where
  abbrev once_put : World
  once_put = store world l v

  stay_once : {g : Form} {y : Value} → Has world Full g y old → Has once_put Full g y old
  stay_once h = has_stays world once_put (λ k y m is. put_aside l w world c.at v (InBlock k) y is (λ q. c.apart k (sym q) m)) h

  at_once : Lies once_put l (put_part w l.path v)
  at_once = record { base = put_there l w world c.at v; part = may_put v c.at.part; may = c.at.may }

  has_once : Has once_put Full f (part (put_part w l.path v) l.path) old
  has_once = stands_then c.at.part c.is c.has (stay_once c.has)

  put_again : Becomes f l w [] old world (store once_put l v)
  put_again = record {
    now = v;
    blocks = old;
    has = has_stays once_put (store once_put l v) (λ k y m is. put_aside l (put_part w l.path v) once_put at_once v (InBlock k) y is
        (λ q. c.apart k (sym q) m)) (stay_once c.has);
    distinct = c.distinct;
    came = λ k m. inl m;
    grows = omega (
      arith,
      stored_length world l.base (put_part (whole_at world l.base) l.path v),
      stored_length once_put l.base (put_part (whole_at once_put l.base) l.path v),
    );
    loses = λ k. omega (
      arith,
      stored_live world k l.base (put_part (whole_at world l.base) l.path v),
      stored_live once_put k l.base (put_part (whole_at once_put l.base) l.path v),
    );
    is = subst (λ y. IsBase (store once_put l v) l.base y) (may_twice v v c.at.part) (put_there l (put_part w l.path v) once_put at_once v);
    elsewhere = λ b y is q far. put_aside l (put_part w l.path v) once_put at_once v b y (put_aside l w world c.at v b y is q) q;
    stays = stays_then (stored_stays world (put_part (whole_at world l.base) l.path v) c.at.base)
        (stored_stays once_put (put_part (whole_at once_put l.base) l.path v) at_once.base);
  }

  swaps_itself : Sure (swapped l l) (λ x after. Becomes f l w [] old world after) world
  swaps_itself =
      let Q : Value → World → Type 0 = λ x after. Becomes f l w [] old world after in
      let R : Value → World → Type 0 = λ x after. (x ≡ v) × (after ≡ once_put) in
      let again : Value = part (put_part w l.path v) l.path in
      sure_then (takes l (λ world v. exchanged l v)) (λ v. exchanged l v >> give nothing) R Q world
      (sure_takes (λ world v. exchanged l v) R (read_there c.at c.is) tt c.has
      (sure_takes (λ world old. changes l v >> give old) R (read_there c.at c.is) tt c.has
      (sure_then (changes l v) (λ u. give v) (λ u after. after ≡ once_put) R world (sure_changes v (λ u after. after ≡ once_put) c.at refl)
      (λ u after is. (refl, is)))))
      (λ x after r. subst (λ y. Sure (exchanged l y >> give nothing) Q after) (sym r.0) (subst (λ m. Sure (exchanged l v >> give nothing) Q m) (sym r.1)
      (sure_then (exchanged l v) (λ u. give nothing) (λ y last. last ≡ store once_put l v) Q once_put
      (sure_takes (λ world old. changes l v >> give old) (λ y last. last ≡ store once_put l v) (read_there at_once refl) tt has_once
      (sure_then (changes l v) (λ u. give again) (λ u last. last ≡ store once_put l v) (λ y last. last ≡ store once_put l v) once_put
      (sure_changes v (λ u last. last ≡ store once_put l v) at_once refl) (λ u last is. is)))
      (λ y last is. subst (λ m. Becomes f l w [] old world m) (sym is) put_again))))

-- two that lie apart
module _ (f : Form) (l r : Location) (blocks : List ℕ) (world : World)
    (two : Two (record { form = f; at = l }) (record { form = f; at = r }) blocks world) where
  abbrev c : Keeps f l two.u two.v two.old world
  c = two.first

  abbrev d : Keeps f r two.w two.x two.new world
  d = two.second

  abbrev middle : World
  middle = store world r two.v

  first_put : Becomes f r two.w two.old [] world middle
  first_put = becomes_put f r two.w two.v two.old world d.at c.has c.distinct two.apart.n_old

  nothing_apart : (b : Base) → Apart b []
  nothing_apart b k q m = elim m [ ]

  left_there : StandsAt middle l two.v
  left_there = becomes_beside d.at first_put two.apart.ways (nothing_apart l.base) (record { whole = two.u; at = c.at; is = c.is })

  stay_first : {g : Form} {y : Value} {bs : List ℕ} → Apart r.base bs → Has world Full g y bs → Has middle Full g y bs
  stay_first far h = has_stays world middle (λ k y m is. put_aside r two.w world d.at two.v (InBlock k) y is (λ q. far k (sym q) m)) h

  abbrev last : World
  last = store middle l two.x

  second_put : Becomes f l left_there.whole two.new [] middle last
  second_put = becomes_put f l left_there.whole two.x two.new middle left_there.at (stay_first d.apart d.has) d.distinct two.apart.m_new

  stay_second : {g : Form} {y : Value} {bs : List ℕ} → Apart l.base bs → Has middle Full g y bs → Has last Full g y bs
  stay_second far h = has_stays middle last (λ k y m is. put_aside l left_there.whole middle left_there.at two.x (InBlock k) y is
      (λ q. far k (sym q) m)) h

  -- as they stand then
  abbrev right_value : Value
  right_value = part (put_part two.w r.path two.v) r.path

  abbrev left_value : Value
  left_value = part (put_part left_there.whole l.path two.x) l.path

  right_there : StandsAt last r right_value
  right_there = becomes_beside left_there.at second_put (other_back two.apart.ways) (nothing_apart r.base) (record {
    whole = put_part two.w r.path two.v;
    at = record { base = put_there r two.w world d.at two.v; part = may_put two.v d.at.part; may = d.at.may };
    is = refl;
  })

  right_has : Has last Full f right_value two.old
  right_has = stay_second c.apart (stands_then d.at.part d.is (stay_first d.apart d.has) (stay_first two.apart.n_old c.has))

  left_has : Has last Full f left_value two.new
  left_has = stands_then left_there.at.part left_there.is (stay_first two.apart.n_old c.has) (stay_second two.apart.m_new (stay_first d.apart d.has))

  -- the same blocks, in another order
  came_over : (k : ℕ) → Member k (two.new ++ (two.old ++ [])) → Member k (two.old ++ (two.new ++ []))
  came_over k m = either_block k two.new (two.old ++ []) (Member k (two.old ++ (two.new ++ []))) m
      (λ q. in_second k two.old (two.new ++ []) (in_first k two.new [] q))
      (λ q. either_block k two.old [] (Member k (two.old ++ (two.new ++ []))) q (λ z. in_first k two.old (two.new ++ []) z) (λ z. elim z [ ]))

  both_apart : (b : Base) → Apart b two.old → Apart b two.new → Apart b (two.new ++ (two.old ++ []))
  both_apart b x y k e m = either_block k two.new (two.old ++ []) ⊥ m (λ q. y k e q) (λ q. either_block k two.old [] ⊥ q (λ z. x k e z) (λ z. elim z [ ]))

  traded : Moves (record { form = f; at = l } ∷ record { form = f; at = r } ∷ []) [] blocks world last
  traded = subst (λ bs. Moves (record { form = f; at = l } ∷ record { form = f; at = r } ∷ []) [] bs world last) (sym two.is) (record {
    territory = record {
      blocks = two.new ++ (two.old ++ []);
      cells = a_cell {w = put_part left_there.whole l.path two.x} {v = left_value} {bs = two.new} (record {
        at = record { base = put_there l left_there.whole middle left_there.at two.x; part = may_put two.x left_there.at.part; may = left_there.at.may };
        is = refl;
        has = left_has;
        distinct = d.distinct;
        apart = two.apart.m_new;
      }) (a_cell {w = right_there.whole} {v = right_value} {bs = two.old} (record {
        at = right_there.at;
        is = right_there.is;
        has = right_has;
        distinct = c.distinct;
        apart = two.apart.n_old;
      }) no_cells);
      distinct = distinct_both two.new (two.old ++ []) d.distinct (distinct_both two.old [] c.distinct tt (λ k m n. elim n [ ]))
          (λ k m n. either_block k two.old [] ⊥ n (λ q. two.apart.both k q m) (λ q. elim q [ ]));
      others = two.others;
      clear = (both_apart l.base c.apart two.apart.m_new, (both_apart r.base two.apart.n_old d.apart, tt));
    };
    came = λ k m. inl (came_over k m);
    grows = omega (
      arith,
      stored_length world r.base (put_part (whole_at world r.base) r.path two.v),
      stored_length middle l.base (put_part (whole_at middle l.base) l.path two.x),
    );
    alone = record {
      bases = λ b y h off far. put_aside l left_there.whole middle left_there.at two.x b y
          (put_aside r two.w world d.at two.v b y h off.1.0) off.0;
      parts = λ m y h other far. becomes_beside left_there.at second_put other.0 (nothing_apart m.base)
          (becomes_beside d.at first_put other.1.0 (nothing_apart m.base) h);
      rows = λ m n h leave far. row_left left_there.at second_put leave.0 (nothing_apart m.base)
          (row_left d.at first_put leave.1.0 (nothing_apart m.base) h);
      stays = stays_then first_put.stays second_put.stays;
    };
    loses = λ k. omega (
      arith,
      times_middle k two.old two.new [] refl,
      times_middle k two.new two.old [] refl,
      stored_live world k r.base (put_part (whole_at world r.base) r.path two.v),
      stored_live middle k l.base (put_part (whole_at middle l.base) l.path two.x),
    );
  })

  swaps_two : Sure (swapped l r) (λ x after. Moves (record { form = f; at = l } ∷ record { form = f; at = r } ∷ []) [] blocks world after) world
  swaps_two =
      let Q : Value → World → Type 0 = λ x after. Moves (record { form = f; at = l } ∷ record { form = f; at = r } ∷ []) [] blocks world after in
      let R : Value → World → Type 0 = λ x after. (x ≡ two.x) × (after ≡ middle) in
      sure_then (takes l (λ world v. exchanged r v)) (λ v. exchanged l v >> give nothing) R Q world
      (sure_takes (λ world v. exchanged r v) R (read_there c.at c.is) tt c.has
      (sure_takes (λ world old. changes r two.v >> give old) R (read_there d.at d.is) tt d.has
      (sure_then (changes r two.v) (λ u. give two.x) (λ u after. after ≡ middle) R world (sure_changes two.v (λ u after. after ≡ middle) d.at refl)
      (λ u after is. (refl, is)))))
      (λ x after q. subst (λ y. Sure (exchanged l y >> give nothing) Q after) (sym q.0)
      (subst (λ m. Sure (exchanged l two.x >> give nothing) Q m) (sym q.1)
      (sure_then (exchanged l two.x) (λ u. give nothing) (λ y end. end ≡ last) Q middle
      (sure_takes (λ world old. changes l two.x >> give old) (λ y end. end ≡ last) (read_there left_there.at left_there.is) tt
      (stay_first two.apart.n_old c.has)
      (sure_then (changes l two.x) (λ u. give two.v) (λ u end. end ≡ last) (λ y end. end ≡ last) middle
      (sure_changes two.x (λ u end. end ≡ last) left_there.at refl) (λ u end is. is)))
      (λ y end is. subst (λ m. Moves (record { form = f; at = l } ∷ record { form = f; at = r } ∷ []) [] blocks world m) (sym is) traded))))

pub swaps : {os : List Owner} {world : World} {f : Form} {l r : Location} (t : Territory os world) (a : Chain os world (record { form = f; at = l }))
    (b : Chain os world (record { form = f; at = r })) → Sure (swapped l r) (λ x after. Moves os [] t.blocks world after) world
swaps {os} {world} {f} {l} {r} t a b = by (chains_compared a b refl)
  where
    left : Owner
    left = record { form = f; at = l }

    right : Owner
    right = record { form = f; at = r }

    itself : Sure (swapped l l) (λ x after. Moves os [] t.blocks world after) world
    itself =
        let own = chain_owns t a in
        sure_weaker (swapped l l) (λ x after. Becomes f l own.stands_in [] own.mine world after) (λ x after. Moves os [] t.blocks world after) world
        (swaps_itself f l own.stands_in own.value own.mine world own.cell) (λ x after b. cell_moves own b)

    by : (left ≡ right) ⊎ ChainsPart a b → Sure (swapped l r) (λ x after. Moves os [] t.blocks world after) world
    by (inl e) = subst (λ (m : Location). Sure (swapped l m) (λ x after. Moves os [] t.blocks world after) world) (ap (λ (o : Owner). o.at) e) itself
    by (inr part) =
        let works = two_cells t b a (λ e. ways_back (part (sym e))) in
        sure_weaker (swapped l r) (λ x after. Moves (left ∷ right ∷ []) [] works.territory.blocks world after) (λ x after. Moves os [] t.blocks world after)
        world (swaps_two f l r works.territory.blocks world (two_there works.territory))
        (λ x after m. (works.back [] after (λ k q n. elim q [ ]) (none_clear os) m).moves)
