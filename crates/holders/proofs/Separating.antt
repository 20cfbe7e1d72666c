-- Ways that part lead to cells of their own.
use Rattle.std.proofs.Common.{◌≡◌, refl, sym, ap, subst, ◌∙◌, arith, ℕ, zero, suc, ◌+◌, ◌<◌, ◌≤◌, inl, inr, ◌⊎◌, List, [], ◌∷◌, ◌++◌, length, Some}
use Rattle.std.proofs.lemmas.Option.{same_Some}
use denote.Struct.Props.{props}
use Rattle.nim_types.specs.Forms.{Form, plain, Forms, forms}
use Rattle.nim_meaning.specs.Values.{Handle, Location, deeper, length_of, block_of}
use Rattle.nim_meaning.specs.State.{World}
use Rattle.holders.specs.Owned.{PartForm, first_part, next_part}
use Rattle.holders.specs.Territory.{Owner, Territory, Among, first_owner, later_owner}
use Rattle.holders.specs.Working.{number, Works, without}
use Rattle.holders.specs.Beside.{PartWays, here_apart, further_on}
use Rattle.holders.specs.Ways.{Step, Differ, another_field, further_differ, Goes, goes_field, goes_element, copies, in_block}
use Rattle.holders.specs.Ways.{Opens, an_object, an_array, a_block, letters, Way, arrived, a_step, Chain, part_owners, ChainsPart, Chains, AllPart, targets_of}
use Rattle.holders.proofs.Bases.{same_or_not}
use Rattle.holders.proofs.Working.{works_same, works_then, works_front, works_first, among_others, others_two, same_owner, among_first, among_second}
use Rattle.holders.proofs.Working.{number_first, number_second, number_below, without_second}
use Rattle.holders.proofs.Openings.{works_open}

-- ---- which part of a row

record Kid (fs : Forms) (from : Location) (b i : ℕ) (f : Form) (j : ℕ) : Type 0 where
  at : Among (part_owners fs from b) (record { form = f; at = deeper from j })
  number_is : number at ≡ i

kid_at : (fs : Forms) (from : Location) (b : ℕ) {i : ℕ} {f : Form} → PartForm fs i f → (j : ℕ) → j ≡ b + i → Kid fs from b i f j
kid_at _ from b (first_part {f = f} {fs = fs}) j e =
    subst (λ j. Kid (forms f fs) from b 0 f j) (omega (arith, e)) (record { at = first_owner; number_is = refl })
kid_at _ from b (next_part {f = f} {g = g} {fs = fs} p) j e =
    let k = kid_at fs from (suc b) p j (omega (arith, e)) in
    record { at = later_owner k.at; number_is = ap suc k.number_is }

-- what is opened, is opened in one way
pub record SameRow (fs gs : Forms) (from other : Location) : Type 0 where
  pub forms_are : fs ≡ gs
  pub same_at : from ≡ other

pub opens_same : {world : World} {o : Owner} {fs gs : Forms} {from other : Location} → Opens world o fs from → Opens world o gs other → SameRow fs gs from other
opens_same an_object an_object = record { forms_are = refl; same_at = refl }
opens_same an_array an_array = record { forms_are = refl; same_at = refl }
opens_same (a_block {n = n} {k = k} {f = f} {l = l} e) (a_block {n = m} {k = j} q) =
    let same : Handle n (Some k) ≡ Handle m (Some j) = sym e ∙ q in
    record { forms_are = ap (λ i. copies i f) (ap length_of same); same_at = ap (λ i. in_block l i) (same_Some k j (ap block_of same)) }
opens_same (letters {n = n} {k = k} {l = l} e) (letters {n = m} {k = j} q) =
    let same : Handle n (Some k) ≡ Handle m (Some j) = sym e ∙ q in
    record { forms_are = ap (λ i. copies i plain) (ap length_of same); same_at = ap (λ i. in_block l i) (same_Some k j (ap block_of same)) }

-- ---- chains

-- where a chain is when a cell is opened
data Followed {os : List Owner} {o : Owner} (i : Among os o) (kids : List Owner) {world : World} {m : Owner} (b : Chain os world m)
    (c : Chain (kids ++ without i) world m) : Type 0 where
  elsewhere : (d : number i ≡ number b.at → ⊥) → number c.at ≡ length kids + number (among_others i b.at d) → c.path ≡ b.path → Followed i kids b c
  inside : number i ≡ number b.at → (d : ℕ) → number c.at ≡ d → d < length kids → b.path ≡ d ∷ c.path → Followed i kids b c

record Follows {os : List Owner} {o : Owner} (i : Among os o) (kids : List Owner) {world : World} {m : Owner} (b : Chain os world m) : Type 0 where
  chain : Chain (kids ++ without i) world m
  followed : Followed i kids b chain

record AtNumber (os : List Owner) (o : Owner) (n : ℕ) : Type 0 where
  at : Among os o
  number_is : number at ≡ n

moved_at : {os : List Owner} {o p : Owner} → o ≡ p → (i : Among os o) → AtNumber os p (number i)
moved_at {os} e i = subst (λ q. AtNumber os q (number i)) e (record { at = i; number_is = refl })

less_one : (j n : ℕ) → IsProp (j < n)
less_one j n = hlevel props

follow : {os : List Owner} {o : Owner} {world : World} {fs : Forms} {from : Location} {m : Owner} (i : Among os o) → Opens world o fs from →
    (b : Chain os world m) → (number i ≡ number b.at → b.path ≡ [] → ⊥) → Follows i (part_owners fs from 0) b
follow {os} {o} {world} {fs} {from} {m} i opens b some = by (same_or_not (number i) (number b.at))
  where
    kids : List Owner
    kids = part_owners fs from 0

    into : (p : Owner) → o ≡ p → (number i ≡ number b.at) → (path : List ℕ) → b.path ≡ path → Way world p m path → Follows i (part_owners fs from 0) b
    into _ q same _ e arrived = absurd (some same e)
    into _ q same _ e (a_step {o = p} {fs = gs} {from = other} {i = d} {f = f} {path = path} op part way) =
        let r = opens_same opens (subst (λ x. Opens world x gs other) (sym q) op) in
        let here : PartForm fs d f = subst (λ xs. PartForm xs d f) (sym r.forms_are) part in
        let k = kid_at fs from 0 here d (omega arith) in
        record {
          chain = record {
            from = record { form = f; at = deeper from d };
            at = among_first (without i) k.at;
            path = path;
            way = subst (λ l. Way world (record { form = f; at = deeper l d }) m path) (sym r.same_at) way;
          };
          followed = inside same d (number_first (without i) k.at ∙ k.number_is)
              (subst (λ n. n < length (part_owners fs from 0)) k.number_is (number_below k.at)) e;
        }

    by : (number i ≡ number b.at) ⊎ (number i ≡ number b.at → ⊥) → Follows i (part_owners fs from 0) b
    by (inl same) = into b.from (same_owner i b.at same) same b.path refl b.way
    by (inr d) = record {
      chain = record { from = b.from; at = among_second kids (among_others i b.at d); path = b.path; way = b.way };
      followed = elsewhere d (number_second kids (among_others i b.at d)) refl;
    }

-- they part further on, behind the same part
later_part : {d e : ℕ} {a b : List ℕ} → d ≡ e → PartWays (d ∷ a) (e ∷ b) → PartWays a b
later_part same (here_apart d) = absurd (d (sym same))
later_part same (further_on w) = w

still_part : {os : List Owner} {o : Owner} (i : Among os o) (kids : List Owner) {world : World} {m n : Owner} (b : Chain os world m) (c : Chain os world n)
    (b2 : Chain (kids ++ without i) world m) (c2 : Chain (kids ++ without i) world n) → ChainsPart b c → Followed i kids b b2 → Followed i kids c c2 →
    ChainsPart b2 c2
still_part i kids b c b2 c2 part (elsewhere d x u) (elsewhere e y v) = λ q.
    subst (λ xs. PartWays xs c2.path) (sym u) (subst (λ ys. PartWays b.path ys) (sym v)
    (part (others_two i b.at c.at d e (omega (arith, q, x, y)))))
still_part i kids b c b2 c2 part (elsewhere d x u) (inside same e y less v) = λ q. absurd (omega (arith, q, x, y, less))
still_part i kids b c b2 c2 part (inside same e y less v) (elsewhere d x u) = λ q. absurd (omega (arith, q, x, y, less))
still_part i kids b c b2 c2 part (inside same e y less v) (inside also f z more w) = λ q.
    later_part (omega (arith, q, y, z))
    (subst (λ xs. PartWays xs (f ∷ c2.path)) v (subst (λ ys. PartWays b.path ys) w (part (sym same ∙ also))))

part_on : {i j : ℕ} {path other : List ℕ} → PartWays path other → (i ≡ j) ⊎ (i ≡ j → ⊥) → PartWays (i ∷ path) (j ∷ other)
part_on {i} {j} {path} {other} w (inl e) = subst (λ k. PartWays (i ∷ path) (k ∷ other)) e (further_on w)
part_on w (inr n) = here_apart (λ e. n (sym e))

-- a field that differs makes them part, there or before
pub differ_part : {a b : List Step} {path other : List ℕ} → Differ a b → Goes a path → Goes b other → PartWays path other
differ_part (another_field d) (goes_field g) (goes_field h) = here_apart (λ e. d (sym e))
differ_part (further_differ d) (goes_field {i = i} g) (goes_field {i = j} h) = part_on (differ_part d g h) (same_or_not i j)
differ_part (further_differ d) (goes_field {i = i} g) (goes_element {i = j} h) = part_on (differ_part d g h) (same_or_not i j)
differ_part (further_differ d) (goes_element {i = i} g) (goes_field {i = j} h) = part_on (differ_part d g h) (same_or_not i j)
differ_part (further_differ d) (goes_element {i = i} g) (goes_element {i = j} h) = part_on (differ_part d g h) (same_or_not i j)

-- ---- so many chains

-- worked on by other cells, from which the chains lead
record Nearer (os : List Owner) (blocks : List ℕ) (world : World) (targets : ℕ → Owner) (n : ℕ) (done : ℕ → Type 0) : Type 0 where
  cells : List Owner
  works : Works os cells blocks world
  chains : Chains cells world targets n
  part : AllPart chains
  arrive : (j : ℕ) (a : j < n) → done j → (chains j a).path ≡ []

not_empty : {i : ℕ} {path : List ℕ} → i ∷ path ≡ [] → ⊥
not_empty e = subst some e tt
  where
    some : List ℕ → Type 0
    some [] = ⊥
    some (s ∷ steps) = Unit {0}

pub none_part : {path other : List ℕ} → other ≡ [] → PartWays path other → ⊥
none_part e (here_apart d) = not_empty e
none_part e (further_on w) = not_empty e

abbrev OrThis : (ℕ → Type 0) → ℕ → ℕ → Type 0
OrThis done j l = done l ⊎ (l ≡ j)

abbrev OneArrives : World → (ℕ → Owner) → ℕ → ℕ → Type 1
OneArrives world targets n k = (os : List Owner) (done : ℕ → Type 0) (t : Territory os world) (j : ℕ) (a : j < n) (chains : Chains os world targets n) →
    AllPart chains → ((l : ℕ) (b : l < n) → done l → (chains l b).path ≡ []) → length (chains j a).path ≡ k → Nearer os t.blocks world targets n (OrThis done j)

-- one of them is followed to its end
one_arrives : (k : ℕ) (world : World) (targets : ℕ → Owner) (n : ℕ) → OneArrives world targets n k
one_arrives zero world targets n os done t j a chains part done_are e = record {
  cells = os;
  works = works_same t;
  chains = chains;
  part = part;
  arrive = λ l b h. by l b h;
}
  where
    none : (steps : List ℕ) → length steps ≡ 0 → steps ≡ []
    none [] e = refl
    none (s ∷ steps) e = absurd (omega (arith, e))

    less_same : (l : ℕ) (b : l < n) → l ≡ j → (chains l b).path ≡ []
    less_same l b q = subst (λ i. (c : i < n) → (chains i c).path ≡ []) (sym q)
        (λ c. subst (λ x. (chains j x).path ≡ []) (less_one j n a c) (none (chains j a).path e)) b

    by : (l : ℕ) (b : l < n) → OrThis done j l → (chains l b).path ≡ []
    by l b (inl h) = done_are l b h
    by l b (inr q) = less_same l b q
one_arrives (suc k) world targets n os done t j a chains part done_are e =
    by (one_arrives k world targets n) (chains j a).from (chains j a).at (chains j a).path (chains j a).way refl refl
  where
    b : Chain os world (targets j)
    b = chains j a

    by : OneArrives world targets n k → (from : Owner) (at : Among os from) (path : List ℕ) → Way world from (targets j) path → number at ≡ number b.at →
        path ≡ b.path →
        Nearer os t.blocks world targets n (OrThis done j)
    by rec from at _ arrived x q = absurd (omega (arith, e, ap length q))
    by rec from at _ (a_step {fs = fs} {from = l} opens p way) x q =
        let works = works_open t at opens in
        let some : (i : ℕ) (c : i < n) → number at ≡ number (chains i c).at → (chains i c).path ≡ [] → ⊥ = λ i c y z. leads i c y z (same_or_not j i) in
        let next : (i : ℕ) (c : i < n) → Follows at (part_owners fs l 0) (chains i c) = λ i c. follow at opens (chains i c) (some i c) in
        let r = rec (part_owners fs l 0 ++ without at) done works.territory j a (λ i c. (next i c).chain)
        (λ i m c d apart. still_part at (part_owners fs l 0) (chains i c) (chains m d) (next i c).chain (next m d).chain (part i m c d apart)
        (next i c).followed (next m d).followed)
        (λ i c h. stays_done i c (next i c) (done_are i c h)) (shorter (next j a)) in
        record { cells = r.cells; works = works_then works r.works; chains = r.chains; part = r.part; arrive = r.arrive }
      where
        leads : (i : ℕ) (c : i < n) → number at ≡ number (chains i c).at → (chains i c).path ≡ [] → (j ≡ i) ⊎ (j ≡ i → ⊥) → ⊥
        leads i c y z (inr d) = none_part z (part j i a c d (sym x ∙ y))
        leads i c y z (inl same) = not_empty (q
            ∙ subst (λ m. (d : m < n) → (chains m d).path ≡ [] → b.path ≡ []) same (λ d u. subst (λ x. (chains j x).path ≡ []) (less_one j n d a) u) c z)

        stays_done : (i : ℕ) (c : i < n) (f : Follows at (part_owners fs l 0) (chains i c)) → (chains i c).path ≡ [] → f.chain.path ≡ []
        stays_done i c f none = case f.followed
          where
            case : Followed at (part_owners fs l 0) (chains i c) f.chain → f.chain.path ≡ []
            case (elsewhere d y u) = u ∙ none
            case (inside same d y less u) = absurd (not_empty (sym u ∙ none))

        shorter : (f : Follows at (part_owners fs l 0) (chains j a)) → length f.chain.path ≡ k
        shorter f = case f.followed
          where
            case : Followed at (part_owners fs l 0) (chains j a) f.chain → length f.chain.path ≡ k
            case (elsewhere d y u) = absurd (d x)
            case (inside same d y less u) = omega (arith, ap length u, e)

-- and all of them, one after another
all_arrive : (m : ℕ) {os : List Owner} {world : World} {targets : ℕ → Owner} {n : ℕ} → m ≤ n → (t : Territory os world) (chains : Chains os world targets n) →
    AllPart chains → Nearer os t.blocks world targets n (λ j. j < m)
all_arrive zero {os} le t chains part = record {
  cells = os;
  works = works_same t;
  chains = chains;
  part = part;
  arrive = λ j a h. absurd (omega (arith, h));
}
all_arrive (suc m) {os} {world} {targets} {n} le t chains part =
    let r = all_arrive m (omega (arith, le)) t chains part in
    let at : m < n = omega (arith, le) in
    let s = one_arrives (length (r.chains m at).path) world targets n r.cells (λ j. j < m) r.works.territory m at r.chains r.part r.arrive refl in
    record {
      cells = s.cells;
      works = works_then r.works s.works;
      chains = s.chains;
      part = s.part;
      arrive = λ j a h. s.arrive j a (below_or j h);
    }
  where
    below_or : (j : ℕ) → j < suc m → OrThis (λ j. j < m) m j
    below_or j h = by (same_or_not j m)
      where
        by : (j ≡ m) ⊎ (j ≡ m → ⊥) → OrThis (λ j. j < m) m j
        by (inl e) = inr e
        by (inr d) = inl (omega (arith, h, d))

-- ---- the cells that they lead to, alone

pub target_at : (targets : ℕ → Owner) (n j : ℕ) → j < n → Among (targets_of targets n) (targets j)
target_at targets zero j a = absurd (omega (arith, a))
target_at targets (suc n) j a = by (same_or_not j n) (λ d. target_at targets n j (omega (arith, a, d)))
  where
    by : (j ≡ n) ⊎ (j ≡ n → ⊥) → ((j ≡ n → ⊥) → Among (targets_of targets n) (targets j)) → Among (targets n ∷ targets_of targets n) (targets j)
    by (inl e) rest = subst (λ i. Among (targets n ∷ targets_of targets n) (targets i)) (sym e) first_owner
    by (inr d) rest = later_owner (rest d)

record Placed (os : List Owner) (blocks : List ℕ) (world : World) (targets : ℕ → Owner) (n m : ℕ) : Type 0 where
  rest : List Owner
  works : Works os (targets_of targets m ++ rest) blocks world
  at : (j : ℕ) → m ≤ j → j < n → Among rest (targets j)
  two : (j l : ℕ) (a : m ≤ j) (b : j < n) (c : m ≤ l) (d : l < n) → number (at j a b) ≡ number (at l c d) → j ≡ l

chosen : (m : ℕ) {os : List Owner} {world : World} {targets : ℕ → Owner} {n : ℕ} → m ≤ n → (t : Territory os world) →
    (at : (j : ℕ) → j < n → Among os (targets j)) → ((j l : ℕ) (a : j < n) (b : l < n) → number (at j a) ≡ number (at l b) → j ≡ l) →
    Placed os t.blocks world targets n m
chosen zero {os} le t at two = record { rest = os; works = works_same t; at = λ j a b. at j b; two = λ j l a b c d e. two j l b d e }
chosen (suc m) {os} {world} {targets} {n} le t at two =
    let r = chosen m (omega (arith, le)) t at two in
    let less : m < n = omega (arith, le) in
    let self : m ≤ m = omega arith in
    let i = r.at m self less in
    let other : (j : ℕ) → suc m ≤ j → (b : j < n) → (c : m ≤ j) → number i ≡ number (r.at j c b) → ⊥ =
    λ j a b c e. not_same j a (r.two m j self less c b e) in
    let works = works_front (among_second (targets_of targets m) i) r.works.territory in
    record {
      rest = without i;
      works = works_then r.works (subst (λ ps. Works (targets_of targets m ++ r.rest) (targets m ∷ ps) r.works.territory.blocks world)
          (without_second (targets_of targets m) i) works);
      at = λ j a b. among_others i (r.at j (at_least j a) b) (other j a b (at_least j a));
      two = λ j l a b c d e. r.two j l (at_least j a) b (at_least l c) d
          (others_two i (r.at j (at_least j a) b) (r.at l (at_least l c) d) (other j a b (at_least j a)) (other l c d (at_least l c)) e);
    }
  where
    at_least : (j : ℕ) → suc m ≤ j → m ≤ j
    at_least j a = omega (arith, a)

    not_same : (j : ℕ) → suc m ≤ j → m ≡ j → ⊥
    not_same j a e = omega (arith, a, e)

pub separated : {os : List Owner} {world : World} {targets : ℕ → Owner} (n : ℕ) (t : Territory os world) (chains : Chains os world targets n) →
    AllPart chains → Works os (targets_of targets n) t.blocks world
separated {os} {world} {targets} n t chains part =
    let r = all_arrive n (omega arith) t chains part in
    let at : (j : ℕ) (a : j < n) → AtNumber r.cells (targets j) (number (r.chains j a).at) = λ j a. moved_at (at_target j a r) (r.chains j a).at in
    let p = chosen n (omega arith) r.works.territory (λ j a. (at j a).at)
    (λ j l a b e. apart j l a b r (sym (at j a).number_is ∙ e ∙ (at l b).number_is) (same_or_not j l)) in
    works_then r.works (works_then p.works (works_first (targets_of targets n) p.rest p.works.territory))
  where
    arrived_at : {from m : Owner} {path : List ℕ} → Way world from m path → path ≡ [] → from ≡ m
    arrived_at arrived e = refl
    arrived_at (a_step op p w) e = absurd (not_empty e)

    at_target : (j : ℕ) (a : j < n) (r : Nearer os t.blocks world targets n (λ j. j < n)) → (r.chains j a).from ≡ targets j
    at_target j a r = arrived_at (r.chains j a).way (r.arrive j a a)

    apart : (j l : ℕ) (a : j < n) (b : l < n) (r : Nearer os t.blocks world targets n (λ j. j < n)) →
        number (r.chains j a).at ≡ number (r.chains l b).at → (j ≡ l) ⊎ (j ≡ l → ⊥) → j ≡ l
    apart j l a b r e (inl q) = q
    apart j l a b r e (inr d) = absurd (none_part (r.arrive l b b) (r.part j l a b d e))
