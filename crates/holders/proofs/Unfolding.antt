-- The elements of one of the cells are worked on in its place.
use Rattle.std.proofs.Common.{◌≡◌, refl, sym, ap, subst, ◌∙◌, arith, ℕ, zero, ◌+◌, ◌<◌, inl, inr, ◌⊎◌, true, List, [], ◌++◌, Some}
use Rattle.std.proofs.lemmas.Bool.{false≢true}
use Rattle.nim_types.specs.Forms.{Form, elements, row, hooked}
use Rattle.nim_meaning.specs.Values.{Value, Handle, count, part, Base, Waiting, InBlock, Location, at_base, length_of, item_of, deeper}
use Rattle.nim_meaning.specs.State.{World}
use Rattle.holders.specs.Owned.{Full, Has, no_sequence, a_sequence, From}
use Rattle.holders.specs.Beside.{OtherPart, other_base}
use Rattle.holders.specs.Territory.{Owner, AllOwners, Territory, Among, Owns}
use Rattle.holders.specs.Working.{without}
use Rattle.holders.specs.Running.{Region, IsOutside, Runs}
use Rattle.holders.specs.Ways.{copies, part_owners, in_block, an_array, a_block}
use Rattle.holders.specs.Finding.{ItemForm, of_sequence, of_array, of_text}
use Rattle.holders.proofs.Bases.{whole_is, loaded}
use Rattle.holders.proofs.Moving.{owns}
use Rattle.holders.proofs.Assigning.{row_has}
use Rattle.holders.proofs.Guards.{read_there}
use Rattle.holders.proofs.Openings.{all_parts}
use Rattle.holders.proofs.Working.{all_at, all_both, all_without, apart_without, among_first}
use Rattle.holders.proofs.OpenedAt.{OpenAt, open_at, as_it_is, part_among}

-- what the cell holds at a turn; where it is as long as at first, its elements are cells
pub record AtTurn (f g : Form) (l : Location) (qs : List Owner) (len : ℕ) (now : World) : Type 0 where
  pub stands_in : Value
  pub value : Value
  pub blocks : List ℕ
  pub from : From now l stands_in value
  pub has : Has now Full f value blocks
  pub items : length_of value ≡ len → (i : ℕ) → i < len → Among qs (record { form = g; at = item_of value l i })

pub record Unfolds (inner : Region) (os : List Owner) (f g : Form) (l : Location) (blocks : List ℕ) (world : World) (qs : List Owner) : Type 0 where
  pub len : ℕ
  pub op : OpenAt inner qs os blocks world
  pub outside : AllOwners (λ o. IsOutside inner o.at.base) qs
  pub turn : (now : World) → Runs inner [] qs [] op.territory.blocks world now → AtTurn f g l qs len now
  pub first : AtTurn f g l qs len world
  pub long : length_of first.value ≡ len

-- the other cells stay
pub record Unfolded (inner : Region) (os : List Owner) (f g : Form) (l : Location) (blocks : List ℕ) (world : World)
    (i : Among os (record { form = f; at = l })) : Type 0 where
  pub qs : List Owner
  pub unfolds : Unfolds inner os f g l blocks world qs
  pub shape : (qs ≡ os) ⊎ ((kids : List Owner) × (qs ≡ kids ++ without i))

element_at : (n : ℕ) (f : Form) (l : Location) (rest : List Owner) (i : ℕ) → i < n →
    Among (part_owners (copies n f) l 0 ++ rest) (record { form = f; at = deeper l i })
element_at n f l rest i less =
    among_first rest (subst (λ m. Among (part_owners (copies n f) l 0) (record { form = f; at = deeper l m })) (same i) (part_among n f l 0 i less))
  where
    same : (i : ℕ) → zero + i ≡ i
    same i = omega arith

not_in_block : (level node k : ℕ) → Waiting level node ≡ InBlock k → ⊥
not_in_block level node k e = subst waits e tt
  where
    waits : Base → Type 0
    waits (Waiting level node) = Unit {0}
    waits b = ⊥

pub unfolded : (inner : Region) {os : List Owner} {world : World} {f g : Form} (level node : ℕ) (t : Territory os world)
    (i : Among os (record { form = f; at = at_base (Waiting level node) })) → ItemForm f g → hooked g ≡ true →
    AllOwners (λ o. IsOutside inner o.at.base) os → Unfolded inner os f g (at_base (Waiting level node)) t.blocks world i
unfolded inner level node t i of_text hooks out = absurd (false≢true hooks)
unfolded inner {os} {world} level node t i (of_array {n = n} {f = g}) hooks out =
    let l = at_base (Waiting level node) in
    let Out : Owner → Type 0 = λ o. IsOutside inner o.at.base in
    let mine = all_at Out out i in
    let op = open_at inner t i mine an_array in
    let kids = part_owners (copies n g) l 0 in
    let qs = kids ++ without i in
    let own = owns t i in
    let has = row_has own.cell.has in
    record {
      qs = qs;
      unfolds = record {
        len = n;
        op = op;
        outside = all_both Out kids (without i) (all_parts Out l (copies n g) 0 (λ h j le. mine)) (all_without Out i out);
        turn = λ now r. at_turn qs (λ j less. element_at n g l (without i) j less) (owns (op.closes now r).territory i);
        first = at_turn qs (λ j less. element_at n g l (without i) j less) own;
        long = ap length_of has.is ∙ has.same;
      };
      shape = inr (kids, refl);
    }
  where
    at_turn : (qs : List Owner) → ((j : ℕ) → j < n → Among qs (record { form = g; at = deeper (at_base (Waiting level node)) j })) → {blocks : List ℕ}
        {now : World} → Owns os blocks (record { form = row n g; at = at_base (Waiting level node) }) now →
        AtTurn (row n g) g (at_base (Waiting level node)) qs n now
    at_turn qs there own =
        let h = row_has own.cell.has in
        record {
          stands_in = own.stands_in;
          value = own.value;
          blocks = own.mine;
          from = read_there own.cell.at own.cell.is;
          has = own.cell.has;
          items = λ same j less.
              subst (λ v. Among qs (record { form = g; at = item_of v (at_base (Waiting level node)) j })) (sym h.is) (there j less);
        }
unfolded inner {os} {world} level node t i (of_sequence {f = g}) hooks out = by own.value own.cell.has refl
  where
    l : Location
    l = at_base (Waiting level node)

    Out : Owner → Type 0
    Out o = IsOutside inner o.at.base

    own : Owns os t.blocks (record { form = elements g; at = l }) world
    own = owns t i

    mine : IsOutside inner (Waiting level node)
    mine = all_at Out out i

    turn_with : {now : World} (qs : List Owner) (len : ℕ) {blocks : List ℕ} (o : Owns os blocks (record { form = elements g; at = l }) now) →
        (length_of o.value ≡ len → (j : ℕ) → j < len → Among qs (record { form = g; at = item_of o.value l j })) → AtTurn (elements g) g l qs len now
    turn_with qs len o items = record {
      stands_in = o.stands_in;
      value = o.value;
      blocks = o.mine;
      from = read_there o.cell.at o.cell.is;
      has = o.cell.has;
      items = items;
    }

    too_far : (j : ℕ) → j < 0 → ⊥
    too_far j less = omega (arith, less)

    by : (v : Value) {bs : List ℕ} → Has world Full (elements g) v bs → own.value ≡ v → Unfolded inner os (elements g) g l t.blocks world i
    by _ no_sequence is = record {
      qs = os;
      unfolds = record {
        len = 0;
        op = as_it_is inner t;
        outside = out;
        turn = λ now r. turn_with os 0 (owns r.territory i) (λ same j less. absurd (too_far j less));
        first = turn_with os 0 own (λ same j less. absurd (too_far j less));
        long = ap length_of is;
      };
      shape = inl refl;
    }
    by _ (a_sequence {k = k} {all = all} there each) is =
        let n = count all in
        let kids = part_owners (copies n g) (in_block l k) 0 in
        let rest = without i in
        let qs = kids ++ rest in
        let op = open_at inner t i mine (a_block {n = n} {k = k} (loaded world l own.stands_in own.cell.at.base ∙ (own.cell.is ∙ is))) in
        let element : (j : ℕ) → j < n → Among qs (record { form = g; at = item_of (Handle n (Some k)) l j }) =
        λ j less. element_at n g (in_block l k) rest j less in
        let items : (v : Value) → v ≡ Handle n (Some k) → (j : ℕ) → j < n → Among qs (record { form = g; at = item_of v l j }) =
        λ v e j less. subst (λ w. Among qs (record { form = g; at = item_of w l j })) (sym e) (element j less) in
        record {
          qs = qs;
          unfolds = record {
            len = n;
            op = op;
            outside = all_both Out kids rest (all_parts Out (in_block l k) (copies n g) 0 (λ h j le. tt)) (all_without Out i out);
            turn = λ now r.
                let held = owns (op.closes now r).territory i in
                let s = r.passes.parts l (Handle n (Some k)) (record { whole = own.stands_in; at = own.cell.at; is = own.cell.is ∙ is }) mine
                (all_both (λ p. OtherPart p.at l) kids rest
                (all_parts (λ p. OtherPart p.at l) (in_block l k) (copies n g) 0 (λ h j le. other_base (λ e. not_in_block level node k e)))
                (apart_without i t.others).0)
                (λ j e m. not_in_block level node j e) in
                turn_with qs n held
                (λ same j less. items held.value
                (sym held.cell.is ∙ (ap (λ x. part x l.path)
                (sym (whole_is now l.base held.stands_in held.cell.at.base) ∙ whole_is now l.base s.whole s.at.base) ∙ s.is)) j less);
            first = turn_with qs n own (λ same j less. items own.value is j less);
            long = ap length_of is;
          };
          shape = inr (kids, refl);
        }
