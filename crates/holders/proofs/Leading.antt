-- The parts of rows and objects, the elements of sequences, and what is wrapped.
use Rattle.std.proofs.Common.{◌≡◌, refl, sym, subst, ◌∙◌, arith, ℕ, ◌<◌, inr, List}
use Rattle.nim_types.specs.Forms.{Form, elements, row, parts, wrapped, Forms}
use Rattle.nim_meaning.specs.Values.{Value, Parts, Values, count, length_of, item_of, part, Location, deeper, nth}
use Rattle.nim_meaning.specs.Marks.{Member, Distinct}
use Rattle.nim_meaning.specs.State.{World}
use Rattle.holders.specs.Owned.{At, whole, row_part, block_may, Full, Has, no_sequence, a_sequence, a_row, some_parts, of_wrapped, HasEach, HasAll}
use Rattle.holders.specs.Owned.{PartForm, Apart, Cell}
use Rattle.holders.specs.Leading.{Leads, PartOf}
use Rattle.holders.proofs.PathLemmas.{has_deeper}
use Rattle.holders.proofs.Ending.{may_deeper, part_is, same_number}
use Rattle.holders.proofs.Copying.{has_below}
use Rattle.holders.proofs.Outward.{Split, each_split, all_split, part_becomes, part_without, item_becomes, item_without, wrapped_becomes, wrapped_without}
use Rattle.holders.proofs.Assigning.{row_has, parts_have, mine_within, mine_distinct}

-- a part that was split off
split_part : (rest : World → Values → List ℕ → Type 0) (g f : Form) (l : Location) (w v : Value) (i : ℕ) (all : Values) (bs : List ℕ) (world : World) →
    (c : Cell g l w v bs world) → v ≡ Parts all → (s : Split rest world f i all bs) →
    ((after : World) (vs : Values) (cs : List ℕ) → count vs ≡ count all → rest after vs cs → Has after Full g (Parts vs) cs) →
    PartOf g l w bs f (deeper l i) world
split_part rest g f l w v i all bs world c is s make =
    let e = c.is ∙ is in
    record {
      stands_in = w;
      value = nth all i;
      mine = s.mine;
      cell = record {
        at = record { base = c.at.base; part = has_deeper i all c.at.part e s.there; may = may_deeper i c.at.may };
        is = part_is i l w all e;
        has = s.has;
        distinct = mine_distinct rest world f i all bs s c.distinct;
        apart = λ k q m. c.apart k q (mine_within rest world f i all bs s k m);
      };
      leads = record {
        within = mine_within rest world f i all bs s;
        outward = λ given after strange b.
            part_becomes rest g f world after l w i all bs given s c.at e (λ vs cs q r. make after vs cs q r) c.distinct (has_below c.has) strange c.apart b;
        without = λ given after strange b k m n. part_without rest g f world after l w i all bs given s c.at e (λ vs cs q r. make after vs cs q r)
            c.distinct (has_below c.has) strange c.apart b k m n;
      };
    }

pub part_of_row : (n : ℕ) (f : Form) (l : Location) (w v : Value) (bs : List ℕ) (world : World) → Cell (row n f) l w v bs world → (i : ℕ) → i < n →
    PartOf (row n f) l w bs f (deeper l i) world
part_of_row n f l w v bs world c i le =
    let r = row_has c.has in
    split_part (λ x vs cs. HasEach x Full f n 0 vs cs) (row n f) f l w v i r.all bs world c r.is (each_split i r.each (omega arith) (omega (arith, le)))
    (λ after vs cs q each. a_row (q ∙ r.same) each)

pub part_of_object : (fs : Forms) (f : Form) (l : Location) (w v : Value) (bs : List ℕ) (world : World) → Cell (parts fs) l w v bs world → (i : ℕ) →
    PartForm fs i f → PartOf (parts fs) l w bs f (deeper l i) world
part_of_object fs f l w v bs world c i p =
    let r = parts_have c.has in
    split_part (λ x vs cs. HasAll x Full fs 0 vs cs) (parts fs) f l w v i r.all bs world c r.is (all_split r.parts p i (omega arith))
    (λ after vs cs q all. some_parts all)

pub element_of_sequence : (f : Form) (l : Location) (w v : Value) (bs : List ℕ) (world : World) → Cell (elements f) l w v bs world → (i : ℕ) →
    i < length_of v → PartOf (elements f) l w bs f (item_of v l i) world
element_of_sequence f l w v bs world c i le = by v bs c.at c.is c.has c.distinct c.apart le
  where
    by : (v : Value) (bs : List ℕ) → At world l w → part w l.path ≡ v → Has world Full (elements f) v bs → Distinct bs → Apart l.base bs → i < length_of v →
        PartOf (elements f) l w bs f (item_of v l i) world
    by _ _ at e no_sequence d apart le = absurd (omega (arith, le))
    by _ _ at e (a_sequence {k = k} {all = all} {bs = cs} there each) d apart le =
        let s = each_split i each (omega arith) (omega (arith, le)) in
        let rest : World → Values → List ℕ → Type 0 = λ x vs ds. HasEach x Full f (count all) 0 vs ds in
        record {
          stands_in = Parts all;
          value = nth all i;
          mine = s.mine;
          cell = record {
            at = record { base = there; part = row_part s.there whole; may = block_may };
            is = refl;
            has = s.has;
            distinct = mine_distinct rest world f i all cs s d.1;
            apart = λ j q m. d.0 (subst (λ x. Member x cs) (sym (same_number k j q)) (mine_within rest world f i all cs s j m));
          };
          leads = record {
            within = λ j m. inr (mine_within rest world f i all cs s j m);
            outward = λ given after strange b. item_becomes f world after l w i k all cs given at e there each d strange apart s b;
            without = λ given after strange b j m n. item_without f world after l w i k all cs given at e there each d strange apart s b j m n;
          };
        }

pub what_is_wrapped : (f : Form) (l : Location) (w v : Value) (bs : List ℕ) (world : World) → Cell (wrapped f) l w v bs world →
    PartOf (wrapped f) l w bs f l world
what_is_wrapped f l w v bs world c = by c.has
  where
    by : Has world Full (wrapped f) v bs → PartOf (wrapped f) l w bs f l world
    by (of_wrapped h) = record {
      stands_in = w;
      value = v;
      mine = bs;
      cell = record { at = c.at; is = c.is; has = h; distinct = c.distinct; apart = c.apart };
      leads = record {
        within = λ k m. m;
        outward = λ given after strange b. wrapped_becomes f l w given bs world after b;
        without = λ given after strange b k m n. wrapped_without f l w given bs world after b k m;
      };
    }

-- further in
pub leads_further : {f g h : Form} {l m n : Location} {w u t : Value} {bs mine inner : List ℕ} {world : World} → Leads f l w bs g m u mine world →
    Leads g m u mine h n t inner world → Leads f l w bs h n t inner world
leads_further a b = record {
  within = λ k m. a.within k (b.within k m);
  outward = λ given after strange c. a.outward given after strange (b.outward given after (λ k m n. strange k m (a.within k n)) c);
  without = λ given after strange c k m n. b.without given after (λ k m n. strange k m (a.within k n)) c k
      (a.without given after strange (b.outward given after (λ k m n. strange k m (a.within k n)) c) k m (b.within k n)) n;
}
