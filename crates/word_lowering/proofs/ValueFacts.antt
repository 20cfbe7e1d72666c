-- Values that lines read and give: where they are, and what is true behind a line that gives one.
use Rattle.std.proofs.Common.{◌≡◌, ◌≢◌, ◌⊎◌, inl, inr, ℕ, ℤ, ◌≤◌, List, [], ◌∷◌, Option, Some, Bool, true, false}
use Rattle.std.proofs.Common.{refl, sym, ap, subst, ◌∙◌}
use Rattle.std.specs.Prelude.{nat_eq}
use Rattle.std.proofs.lemmas.Bool.{eq-eqb, ne_eqb, cond-true, cond-false}
use Rattle.nim_program.specs.Ints.{fits as is_int_number}
use Rattle.nim_types.specs.Types.{Ty}
use Rattle.nim_types.specs.Table.{facts_in}
use Rattle.nim_meaning.specs.Values.{Value, Number, number_of}
use Rattle.nim_meaning.specs.State.{World}
use Rattle.flat_code.specs.declared.block.BlockLine.{BlockLine}
use Rattle.flat_code.specs.declared.place.PlaceKind.{PlaceKind}
use Rattle.flat_code.specs.declared.place.PlaceKind.TheVariants as K
use Rattle.word_code.specs.Words.{Vars}
use Rattle.flat_code.specs.Scene.{with_value, put, known_in}
use Rattle.flat_code.specs.Shapes.{number, has_shape, shape_of}
use Rattle.flat_code.specs.Fits.{is_value, place_named, if_type_of}
use Rattle.word_lowering.proofs.HeapKept.{heap_same}
use Rattle.word_lowering.proofs.ShapeFacts.{never, of_numbers}
use Rattle.word_lowering.specs.declared.homes.TheConstants.{OWN_FROM}
use Rattle.word_lowering.specs.declared.homes.Alias.TheVariants as alias
use Rattle.word_lowering.specs.declared.homes.Home.TheVariants.{Variable}
use Rattle.word_lowering.specs.declared.homes.Housed.{Housed}
use Rattle.word_lowering.specs.declared.spots.Spot.TheVariants.{Held}
use Rattle.word_lowering.specs.declared.texts.TheConstants.{FIXED_BYTES}
use Rattle.word_lowering.specs.Layouts.{holds_address, address_by}
use Rattle.word_lowering.specs.Spots.{spot_of}
use Rattle.word_lowering.specs.Operations.{word}
use Rattle.word_lowering.specs.LineCode.{variable_in, variable_of}
use Rattle.word_lowering.proofs.Options.{some_same}
use Rattle.word_lowering.proofs.OrdinalRuns.{AllBut}
use Rattle.word_lowering.proofs.Moves.{single_word}
use Rattle.word_lowering.proofs.LineFits.{number_fits, number_value}
use Rattle.word_lowering.proofs.Sites.{Body, type_of, room, Housing, in_variable, by_address, in_places, in_data, InVariable, InMemory, Site, has_hooks}
use Rattle.word_lowering.proofs.Sites.{data_end, is_one_word, looks}
use Rattle.word_lowering.proofs.Sites.{IsHoused, IsTextual, IsBody}
use Rattle.word_lowering.proofs.Scenes.{Name, of_value, of_location, of_place, kind_in, number_in, At, Call, house, IsNamed, IsThere, looked, IsItem, Holding}
use Rattle.word_lowering.proofs.Scenes.{row_of, IsPlaced, of_waiting}
use Rattle.word_lowering.proofs.Scenes.{Store, HasVariable}
use Rattle.word_lowering.proofs.SitesApart.{houses, variables_apart, variable_high}
use Rattle.word_lowering.proofs.Keeping.{own_text, spot_held, value_no_location, value_no_place, call, nowhere, Kept, New, worlds_same, value_no_waiting}
use Rattle.word_lowering.proofs.Related.{Both, body_of, StandAt, store_of}
use Rattle.word_lowering.proofs.Items.{numbers_of, item_of}
use Rattle.word_lowering.proofs.Lines.{Basis, changed, starts, IsGood, all_sites, good_changed, waits_below}

-- a temporary's place holds no address
value_by : (lent : Bool) (k : PlaceKind) → is_value k ≡ true → address_by lent k ≡ false
value_by lent K.Temp h = refl
value_by lent K.Counter h = refl
value_by lent k h = never h

pub value_plain : (place : Housed) → is_value place.kind ≡ true → holds_address place ≡ false
value_plain place h = value_by place.lent place.kind h

-- where a word of a temporary is
pub record InWord (h : Housed) : Type 0 where
  pub variable : ℕ
  pub home : h.home ≡ Variable variable
  pub high : OWN_FROM ≤ variable
  pub is : variable_of h ≡ variable
  pub spot : spot_of h ≡ Held variable

module _ (x : Basis) where
  -- ---- what is there

  abbrev pub type_in : (is_kind : PlaceKind → Bool) → Body → ℕ → Option Ty
  type_in is_kind b n = if_type_of (known_in x.table) (place_named is_kind b.proc.places n)

  -- a name with a type is there, and has that type
  pub record HasType (s : Site) (name : Name) (ty : Ty) : Type 0 where
    pub named : IsNamed s name
    pub typed : type_of x.table (row_of s name) ≡ ty

  pub has_type : (s : Site) (name : Name) (ty : Ty) → IsBody x.table x.blocks s.body → type_in (kind_in name) s.body (number_in name) ≡ Some ty
      → HasType s name ty
  has_type s name ty b e = let n = b.named (kind_in name) (number_in name) ty e in record { named = n.0; typed = n.1 }

  pub look_of : (s : Site) (name : Name) (ty : Ty) → HasType s name ty →
      shape_of (facts_in x.table) (type_of x.table (row_of s name)) ≡ shape_of (facts_in x.table) ty
  look_of s name ty h = ap (shape_of (facts_in x.table)) h.typed

  abbrev pub with_home : {s : Site} {name : Name} → IsNamed s name → (row_of s name).alias ≡ alias.Own → IsPlaced name → IsThere s name
  with_home {name = of_value t} n own placed = record { among = n.among; number = n.number; kind = n.kind; own = own }
  with_home {name = of_location t} n own placed = record { among = n.among; number = n.number; kind = n.kind; own = own }
  with_home {name = of_place p} n own placed = record { among = n.among; number = n.number; kind = n.kind; own = own }
  with_home {name = of_waiting node} n own placed = absurd placed

  -- a value of numbers has a home
  pub value_there : (s : Site) (t : ℕ) → IsBody x.table x.blocks s.body → IsNamed s (of_value t) → of_numbers (looked x.table s (of_value t)) ≡ true
      → IsThere s (of_value t)
  value_there s t b n numbers = by (b.values t n)
    where
      by : ((house s (of_value t)).alias ≡ alias.Own) ⊎ IsTextual x.table x.blocks (house s (of_value t)) → IsThere s (of_value t)
      by (inl own) = with_home n own tt
      by (inr text) = never (sym (ap of_numbers text.look) ∙ numbers)

  -- nothing is to be done for what a name has, if it has anything
  abbrev pub IsPlain : (s : Site) → Name → Type 0
  IsPlain s (of_value t) = IsThere s (of_value t) → has_hooks x.table (house s (of_value t)) ≡ false
  IsPlain s (of_location t) = IsNamed s (of_location t) → has_hooks x.table (house s (of_location t)) ≡ false
  IsPlain s (of_place n) = IsThere s (of_place n) → has_hooks x.table (house s (of_place n)) ≡ false
  IsPlain s (of_waiting node) = Unit {0}

  abbrev pub PlainNames : (s : Site) → List Name → Type 0
  PlainNames s [] = Unit {0}
  PlainNames s (name ∷ names) = IsPlain s name × PlainNames s names

  -- such locations lead to numbers
  pub location_of_numbers : (s : Site) (t : ℕ) → IsBody x.table x.blocks s.body → IsNamed s (of_location t) → IsPlain s (of_location t)
      → of_numbers (looked x.table s (of_location t)) ≡ true
  location_of_numbers s t b n plain = b.locations t n (plain n)

  -- a value of which a location is another name has a home
  abbrev pub IsHomed : (s : Site) → ℕ → Type 0
  IsHomed s t = (u : ℕ) → (house s (of_location t)).alias ≡ alias.Value u → IsThere s (of_value u)

  pub homed_plain : (s : Site) (t : ℕ) → IsBody x.table x.blocks s.body → IsNamed s (of_location t) → IsPlain s (of_location t) → IsHomed s t
  homed_plain s t b n plain u is =
      let ty : Ty = type_of x.table (house s (of_location t)) in
      let typed = has_type s (of_value u) ty b (b.valued t u n is).0 in
      value_there s u b typed.named (ap of_numbers (look_of s (of_value u) ty typed) ∙ location_of_numbers s t b n plain)

  pub place_there : (s : Site) (p : ℕ) → IsBody x.table x.blocks s.body → IsNamed s (of_place p) → IsThere s (of_place p)
  place_there s p b n = with_home n (b.places (house s (of_place p)) n.among n.kind) tt

  pub numbers_there : (s : Site) (name : Name) → IsBody x.table x.blocks s.body → IsThere s name
      → has_hooks x.table (house s name) ≡ false → of_numbers (looked x.table s name) ≡ true
  numbers_there s name b there plain = (houses x.table x.blocks s name b there).numbers plain

  -- ---- words

  pub in_word : (s : Site) (t : ℕ) → IsBody x.table x.blocks s.body → IsThere s (of_value t) → is_one_word (looked x.table s (of_value t)) ≡ true
      → InWord (house s (of_value t))
  in_word s t b there one = by z.where_is
    where
      z : IsHoused x.table x.blocks s.body (house s (of_value t))
      z = houses x.table x.blocks s (of_value t) b there

      inside : InVariable (house s (of_value t)).home
      inside = z.kept there.kind (sym z.word ∙ one)

      by : Housing (room s.body) FIXED_BYTES (data_end x.table x.blocks) s.body.start (house s (of_value t)) → InWord (house s (of_value t))
      by (in_variable v e plain low is_word) = record {
        variable = v;
        home = e;
        high = low;
        is = ap variable_in e;
        spot = spot_held (house s (of_value t)) v plain e;
      }
      by (by_address v e address low) = never (sym (value_plain (house s (of_value t)) there.kind) ∙ address)
      by (in_places at e plain whole within) = absurd (subst InVariable e inside)
      by (in_data at e plain whole low within start) = absurd (subst InVariable e inside)

  -- what is no word is in memory
  pub housed_inside : (b : Body) (h : Housed) → IsHoused x.table x.blocks b h → holds_address h ≡ false → is_one_word (looks x.table h) ≡ false
      → InMemory h.home
  housed_inside b h is plain_is many = by is.where_is
    where
      by : Housing (room b) FIXED_BYTES (data_end x.table x.blocks) b.start h → InMemory h.home
      by (in_variable v e p least w) = never (sym many ∙ (is.word ∙ w))
      by (by_address v e k least) = never (sym plain_is ∙ k)
      by (in_places m e p whole within) = subst InMemory (sym e) tt
      by (in_data m e p whole least within start) = subst InMemory (sym e) tt

  -- the word of an operand
  pub record Operand (c : Call) (t : ℕ) (v : Value) : Type 0 where
    pub fits : is_int_number (number_of v) ≡ true
    pub high : OWN_FROM ≤ variable_of (house c.site (of_value t))
    pub word_is : c.vars (variable_of (house c.site (of_value t))) ≡ Some (word (number_of v))
    pub number : ℤ
    pub is : v ≡ Number number
    pub shaped : has_shape v (looked x.table c.site (of_value t)) ≡ true

  pub operand : (k : Store) (w : World) (from : List Site) (c : Call) (t : ℕ) (v : Value) (values : Option ℕ) → IsBody x.table x.blocks c.site.body
      → Holding x.table x.blocks k w from c → IsNamed c.site (of_value t) → c.temps.values t ≡ Some v
      → looked x.table c.site (of_value t) ≡ number values → Operand c t v
  operand k w from c t v values b hold named e look =
      let there = value_there c.site t b named (ap of_numbers look) in
      let item = numbers_of x.table k c (of_value t) v (ap of_numbers look) (hold.items (of_value t) v there e) in
      let z = in_word c.site t b there (ap is_one_word look) in
      let n = number_value v values (subst (λ s. has_shape v s ≡ true) look item.shaped) in
      record {
        fits = number_fits v (looked x.table c.site (of_value t)) item.shaped;
        high = subst (λ u. OWN_FROM ≤ u) (sym z.is) z.high;
        word_is = ap c.vars z.is ∙ subst (λ p. At k.memory c.site.base c.vars p v) z.spot item.at;
        number = n.0;
        is = n.1;
        shaped = item.shaped;
      }

  -- ---- a temporary gets an ordinal

  module _ (g : Both) (line : BlockLine) (rest : List BlockLine) (y : IsGood x (starts g line rest)) where
    body : IsBody x.table x.blocks (body_of g)
    body = y.linked.0

    -- of the temporaries that are there now, that one has the value
    pub put_here : (t : ℕ) (v u : Value) → put g.call.temps.values t v t ≡ Some u → v ≡ u
    put_here t v u h = some_same v u (sym (cond-true (nat_eq t t) (Some v) (g.call.temps.values t) (eq-eqb t t refl)) ∙ h)

    pub put_away : (t : ℕ) (v : Value) (u : ℕ) → u ≢ t → put g.call.temps.values t v u ≡ g.call.temps.values u
    put_away t v u ne = cond-false (nat_eq u t) (Some v) (g.call.temps.values u) (ne_eqb u t ne)

    pub put_still : (t : ℕ) (v : Value) (u : ℕ) (w : Value) → g.call.temps.values u ≡ Some w → (z : Value) ×
        (put g.call.temps.values t v u ≡ Some z)
    put_still t v u w h = by (nat_eq u t) refl
      where
        by : (b : Bool) → nat_eq u t ≡ b → (z : Value) × (put g.call.temps.values t v u ≡ Some z)
        by true e = (v, cond-true (nat_eq u t) (Some v) (g.call.temps.values u) e)
        by false e = (w, cond-false (nat_eq u t) (Some v) (g.call.temps.values u) e ∙ h)

    -- a temporary other than one that gets a value
    pub different : (t u : ℕ) → (g.call.site.level ≢ g.call.site.level) ⊎ (of_value u ≢ of_value t) → u ≢ t
    different t u (inl ne) e = ne refl
    different t u (inr ne) e = ne (ap of_value e)

    -- to a variable
    pub good_word : (after : List BlockLine) (t : ℕ) (v : Value) (vars : Vars) → IsThere g.call.site (of_value t)
        → of_numbers (looked x.table g.call.site (of_value t)) ≡ true → has_shape v (looked x.table g.call.site (of_value t)) ≡ true
        → is_one_word (looked x.table g.call.site (of_value t)) ≡ true
        → AllBut g.call.vars (variable_of (house g.call.site (of_value t))) vars
        → vars (variable_of (house g.call.site (of_value t))) ≡ Some (single_word v) → StandAt x.table x.blocks (body_of g) after
        → (awaits : ℕ) → IsGood x (changed g after (with_value t g.call.temps v) vars g.memory g.words awaits g.world)
    good_word after t v vars there numbers shaped one but is stands awaits =
        good_changed x g line rest y after g.call.site (of_value t) (with_value t g.call.temps v) vars g.memory g.words awaits g.world
        y.memory (heap_same g.memory) (refl, refl) (nowhere refl)
        (worlds_same x.table x.blocks x.small (all_sites x g line rest y) y.linked g.call.site (of_value t) g.world)
        kept (λ e. new)
        (λ c from i e. absurd (waits_below x g line rest y c i e)) y.frames y.levels stands
      where
        z : InWord (house g.call.site (of_value t))
        z = in_word g.call.site t body there one

        kept : Kept x.table x.blocks x.small (all_sites x g line rest y) y.linked g.call.site (of_value t) g.call.site g.call.temps
            (with_value t g.call.temps v) g.call.vars vars
        kept = record {
          values = λ u other away. put_away t v u (different t u away);
          places = λ u away. refl;
          texts = λ u n k i text away. put_away t v u (different t u away);
          still = λ u w l h. put_still t v u w h;
          variables = λ f u other away home. but.others u (above f u other home) (apart f u other away home);
          left = but.left;
        }
          where
            above : (f : Name) (u : ℕ) → IsThere g.call.site f → HasVariable g.call.site f u → OWN_FROM ≤ u
            above f u other home = variable_high x.table x.blocks g.call.site f u body other home

            apart : (f : Name) (u : ℕ) → IsThere g.call.site f → (g.call.site.level ≢ g.call.site.level) ⊎ (f ≢ of_value t)
                → HasVariable g.call.site f u → u ≢ variable_of (house g.call.site (of_value t))
            apart f u other (inl ne) home e = ne refl
            apart f u other (inr ne) home e =
                variables_apart x.table x.blocks g.call.site (of_value t) f z.variable u body there other (λ s. ne (sym s)) z.home home (e ∙ z.is)

        new : New x.table x.blocks x.small (all_sites x g line rest y) y.linked g.call.site (of_value t) (store_of g) g.world (all_sites x g line rest y)
            (call g.call.site (with_value t g.call.temps v) vars)
        new = record {
          item = λ u i h. subst (λ w. IsItem x.table (store_of g) (call g.call.site (with_value t g.call.temps v) vars) (of_value t) w) (put_here t v u h)
              (item_of x.table (store_of g) (call g.call.site (with_value t g.call.temps v) vars) (of_value t) v (record {
                there = there;
                numbers = numbers;
                plain = value_plain (house g.call.site (of_value t)) there.kind;
                shaped = shaped;
                at = subst (λ p. At g.memory g.call.site.base vars p v) (sym z.spot) (ap vars (sym z.is) ∙ is);
              }));
          text = λ u n k w e a h. own_text g.call.site (of_value u) n k (subst (IsThere g.call.site) (sym e) there) a;
          led = λ u other e n h. absurd (value_no_location t u (sym e));
          filled = λ n e h. absurd (value_no_place t n (sym e));
          waits = λ n e. absurd (value_no_waiting t n (sym e));
        }
