-- Lines of block code that give one temporary agree on what it is another name for, and have code.
use Rattle.std.proofs.Common.{◌≡◌, ℕ, ◌⊎◌, inl, inr, Bool, true, false, List, [], ◌∷◌, ◌++◌, length, Option, Some, None, refl, sym, ap, ap₂, ◌∙◌}
use Rattle.std.specs.Prelude.{nat_eq, ◌&&◌, ◌||◌, not, if◌then◌else◌}
use Rattle.std.proofs.lemmas.Bool.{eq-eqb, both_ways, and_parts, and_from}
use Rattle.nim_types.specs.declared.types.TypeDef.{TypeDef}
use Rattle.nim_types.specs.Types.{Ty}
use Rattle.nim_program.specs.Kinds.{is_of}
use Rattle.flat_code.specs.declared.line.From.{From}
use Rattle.flat_code.specs.declared.line.From.TheVariants as F
use Rattle.flat_code.specs.declared.line.Line.{Line}
use Rattle.flat_code.specs.declared.line.Line.TheVariants as L
use Rattle.flat_code.specs.declared.place.FlatPlace.{FlatPlace}
use Rattle.flat_code.specs.Fits.{Signature, is_value, is_location, place_named, if_type_of, any_place, value, fits, all_fit}
use Rattle.flat_code.specs.Scene.{known_in}
use Rattle.flat_code.specs.Alike.{value_name, location_name, name_of, IsProperty, is_named, is_as as has_as, gives_as, AreAlike}
use Rattle.flat_code.specs.BuiltCode.{is_counter, IsBuiltLine, AreBuiltLines}
use Rattle.word_lowering.specs.declared.homes.Alias.{Alias}
use Rattle.word_lowering.specs.declared.homes.Alias.TheVariants.{Own, Place, Value, Node, Text}
use Rattle.word_lowering.specs.declared.homes.Housed.{Housed}
use Rattle.word_lowering.specs.Aliases.{value_to, location_to, alias_by, alias_in, is_it, texts_of, own_where, standing, own_literal, homed, homed_by}
use Rattle.word_lowering.specs.Aliases.{is_among, is_read, text_alias, text_in, values_in}
use Rattle.word_lowering.specs.Lookups.{found}
use Rattle.word_lowering.specs.MayLower.{same_alias, is_as, is_value_as, own_values, has_code, lines_may}
use Rattle.core_compiler.proofs.LeadsAgree.{CallsHook, AreLed}
use Rattle.core_compiler.proofs.LineNames.{named, own_value, same_place}

pub never : {A : Type 0} → false ≡ true → A
never e = absurd (both_ways false refl e)

pub nothing : {A : Type 0} {B : Type 0} {x : A} → None ≡ Some x → B
nothing e = cc

pub one : {A : Type 0} {x y : A} → Some x ≡ Some y → x ≡ y
one e = cc

pub or_right : (a b : Bool) → b ≡ true → a || b ≡ true
or_right true b h = refl
or_right false b h = h

-- ---- aliases

pub itself : (a : Alias) → same_alias a a ≡ true
itself Own = refl
itself (Place p true) = and_from _ _ (eq-eqb p p refl) refl
itself (Place p false) = and_from _ _ (eq-eqb p p refl) refl
itself (Value t) = eq-eqb t t refl
itself (Node n) = eq-eqb n n refl
itself (Text behind bytes) = and_from _ _ (eq-eqb behind behind refl) (eq-eqb bytes bytes refl)

-- ---- literals that lines take from homes

own_or_literal : (taken : List ℕ) (t : ℕ) (a : Alias) → (own_literal taken t a ≡ Own) ⊎ (own_literal taken t a ≡ a)
own_or_literal taken t (Text behind size) = by (is_among t taken)
  where
    by : (b : Bool) → ((if b then Own else Text behind size) ≡ Own) ⊎ ((if b then Own else Text behind size) ≡ Text behind size)
    by true = inl refl
    by false = inr refl
own_or_literal taken t a = inr refl

abbrev IsTextName : Alias → Type 0
IsTextName (Text behind bytes) = Unit {0}
IsTextName other = ⊥

text_named : (read : Bool) (n : ℕ) (o : Option (List ℕ)) → (text_alias read n o ≡ Own) ⊎ IsTextName (text_alias read n o)
text_named read n None = inl refl
text_named true n (Some text) = inr tt
text_named false n (Some text) = inl refl

value_named : (line : Line) (t n : ℕ) → is_it t (value_to line) ≡ true → (alias_by line n ≡ Own) ⊎ IsTextName (alias_by line n)
value_named (L.Root to place global) t n i = never i
value_named (L.Fresh to from waits) t n i = never i
value_named (L.Constant to how ty pieces) t n i = text_named (is_read how.how) n (text_in pieces)
value_named line t n i = inl refl

value_name_is : (t : ℕ) (lines : List Line) → (alias_in value_to t lines ≡ Own) ⊎ IsTextName (alias_in value_to t lines)
value_name_is t [] = inl refl
value_name_is t (line ∷ rest) = by (is_it t (value_to line)) refl (value_name_is t rest)
  where
    by : (b : Bool) → is_it t (value_to line) ≡ b → (alias_in value_to t rest ≡ Own) ⊎ IsTextName (alias_in value_to t rest) →
        ((if b then alias_by line (length (texts_of rest)) else alias_in value_to t rest) ≡ Own)
        ⊎ IsTextName (if b then alias_by line (length (texts_of rest)) else alias_in value_to t rest)
    by true i behind = value_named line t (length (texts_of rest)) i
    by false i behind = behind

-- a literal that is taken from a home has one
literal_homed : (taken : List ℕ) (t : ℕ) (a : Alias) → is_among t taken ≡ true → (a ≡ Own) ⊎ IsTextName a → own_literal taken t a ≡ Own
literal_homed taken t a i (inl e) = ap (own_literal taken t) e
literal_homed taken t (Text behind size) i (inr n) = ap (λ b. if b then Own else Text behind size) i
literal_homed taken t Own i (inr n) = refl
literal_homed taken t a i (inr n) = absurd n

among_front : (t : ℕ) (xs ys : List ℕ) → is_among t xs ≡ true → is_among t (xs ++ ys) ≡ true
among_front t [] ys i = never i
among_front t (x ∷ xs) ys i = by (nat_eq x t) i (λ h. among_front t xs ys h)
  where
    by : (b : Bool) → (b || is_among t xs) ≡ true → (is_among t xs ≡ true → is_among t (xs ++ ys) ≡ true) → (b || is_among t (xs ++ ys)) ≡ true
    by true h rest = refl
    by false h rest = rest h

among_behind : (t : ℕ) (xs ys : List ℕ) → is_among t ys ≡ true → is_among t (xs ++ ys) ≡ true
among_behind t [] ys i = i
among_behind t (x ∷ xs) ys i = or_right (nat_eq x t) _ (among_behind t xs ys i)

-- ---- lines that have code

module _ (table : List TypeDef) where
  coded : (line : Line) → IsBuiltLine (known_in table) line → CallsHook table line → has_code table line ≡ true
  coded (L.Apply to operation how ty of from) h hook = h
  coded (L.Object to from) h hook = absurd h
  coded (L.Own what from) h hook = hook
  coded line h hook = refl

  -- ---- the first line that gives a temporary, and all others

  -- as far as it is told: a location of a place that stands for another one has a home of its own
  module _ (given : Line → Option ℕ) (key : ℕ → ℕ) (keyed : (line : Line) (t : ℕ) → is_named (key t) (name_of line) ≡ is_it t (given line))
      (told : Alias → Alias) (own_told : told Own ≡ Own) where
    abbrev has : Alias → Line → (behind : List Line) → Bool
    has a line k = same_alias a (told (alias_by line (length (texts_of k))))

    property : (a : Alias) → IsProperty (has a) (same_alias a Own)
    property a = record {
      values = λ line to k n bare.
          ap (same_alias a) (ap told (own_value line (length (texts_of k)) to
          (sym ((named line).value to) ∙ ap (is_named (value_name to)) n ∙ eq-eqb (value_name to) (value_name to) refl) bare) ∙ own_told);
      locations = λ line to k l n.
          ap (same_alias a) (ap told (same_place line (length (texts_of k)) (length (texts_of l)) to
          (sym ((named line).location to) ∙ ap (is_named (location_name to)) n ∙ eq-eqb (location_name to) (location_name to) refl)));
    }

    abbrev any_gives : (t : ℕ) → List Line → Bool
    any_gives t [] = false
    any_gives t (line ∷ k) = is_it t (given line) || any_gives t k

    gives_here : (t : ℕ) (a : Alias) (b : Bool) (line : Line) (k : List Line) → is_it t (given line) ≡ true → has_as b (has a line k) ≡ true →
        gives_as (key t) (has a) b (line ∷ k) ≡ true
    gives_here t a b line k e h = ap (λ c. c || gives_as (key t) (has a) b k) (and_from _ _ (keyed line t ∙ e) h)

    first_has : (t : ℕ) (a : Alias) (lines : List Line) → told (alias_in given t lines) ≡ a → any_gives t lines ≡ true →
        gives_as (key t) (has a) true lines ≡ true
    first_has t a [] e h = never h
    first_has t a (line ∷ k) e h = at (is_it t (given line)) refl e h (λ f g. first_has t a k f g)
      where
        at : (b : Bool) → is_it t (given line) ≡ b → told (if b then alias_by line (length (texts_of k)) else alias_in given t k) ≡ a →
            (b || any_gives t k) ≡ true → (told (alias_in given t k) ≡ a → any_gives t k ≡ true → gives_as (key t) (has a) true k ≡ true) →
            gives_as (key t) (has a) true (line ∷ k) ≡ true
        at true i f g rest = gives_here t a true line k i (ap (same_alias a) f ∙ itself a)
        at false i f g rest = or_right (is_named (key t) (name_of line) && has a line k) _ (rest f g)

    module _ (whole : List Line) (alike : AreAlike whole) where
      -- what stands in the whole, from a line on
      pub record Ends (lines : List Line) : Type 0 where
        pub gives : (n : ℕ) (holds : Line → (behind : List Line) → Bool) (b : Bool) → gives_as n holds b lines ≡ true → gives_as n holds b whole ≡ true
        pub any : (t : ℕ) → any_gives t lines ≡ true → any_gives t whole ≡ true

      pub ends_behind : (line : Line) (k : List Line) → Ends (line ∷ k) → Ends k
      ends_behind line k e = record {
        gives = λ n holds b h. e.gives n holds b (or_right _ (gives_as n holds b k) h);
        any = λ t h. e.any t (or_right (is_it t (given line)) (any_gives t k) h);
      }

      pub agrees : (t : ℕ) (line : Line) (k : List Line) → Ends (line ∷ k) → is_it t (given line) ≡ true →
          same_alias (told (alias_in given t whole)) (told (alias_by line (length (texts_of k)))) ≡ true
      agrees t line k e i = at (has a line k) refl
        where
          a : Alias
          a = told (alias_in given t whole)

          at : (b : Bool) → has a line k ≡ b → has a line k ≡ true
          at true h = h
          at false h =
              let without = e.gives (key t) (has a) false (gives_here t a false line k i (ap not h)) in
              let with_it = first_has t a whole refl (e.any t (ap (λ c. c || any_gives t k) i)) in
              absurd (both_ways (gives_as (key t) (has a) true whole && gives_as (key t) (has a) false whole)
              (alike (key t) (has a) (same_alias a Own) (property a)) (and_from _ _ with_it without))

  -- ---- lines among the places of a procedure

  module _ (procs : List Signature) (globals places : List FlatPlace) where
    abbrev fit : Line → Bool
    fit line = fits (known_in table) procs globals places line

    none_of : {A : Type 0} (a b : Option Ty) → a ≡ None → is_of a b ≡ true → A
    none_of a b e h = bare b (sym (ap (λ x. is_of x b) e) ∙ h)
      where
        bare : {A : Type 0} (b : Option Ty) → is_of None b ≡ true → A
        bare None h = never h
        bare (Some ty) h = never h

    -- what leads somewhere has a place, or is no other name
    led_own : (line : Line) (behind t : ℕ) → location_to line ≡ Some t → fit line ≡ true → place_named is_location places t ≡ None →
        alias_by line behind ≡ Own
    led_own (L.Root to place global) behind t e f none =
        let n : place_named is_location places to ≡ None = ap (place_named is_location places) (one e) ∙ none in
        none_of (if_type_of (known_in table) (place_named is_location places to)) (any_place (known_in table) procs globals places place global)
        (ap (if_type_of (known_in table)) n) (and_parts _ _ f).0
    led_own (L.Fresh to from waits) behind t e f none =
        let n : place_named is_location places to ≡ None = ap (place_named is_location places) (one e) ∙ none in
        none_of (if_type_of (known_in table) (place_named is_location places to)) (value (known_in table) procs globals places from)
        (ap (if_type_of (known_in table)) n) (and_parts _ _ f).0
    led_own (L.Constant to how ty pieces) behind t e f none = nothing e
    led_own line behind t e f none = refl

    -- what is found of a temporary is what its first line says, or it has no place of its own
    pub record Finds (whole : List Line) (hs : List Housed) : Type 0 where
      pub value : (t : ℕ) → ((found is_value t hs).alias ≡ own_literal (homed whole) t (alias_in value_to t whole))
          ⊎ (((found is_value t hs).alias ≡ Own) × ((p : FlatPlace) → place_named is_value places t ≡ Some p → is_counter p.kind ≡ true))
      pub location : (t : ℕ) → ((found is_location t hs).alias ≡ own_where (standing whole) (alias_in location_to t whole))
          ⊎ (((found is_location t hs).alias ≡ Own) × (place_named is_location places t ≡ None))

    module _ (whole : List Line) (alike : AreAlike whole) (hs : List Housed) (finds : Finds whole hs) where
      -- what is told of locations
      abbrev told_here : Alias → Alias
      told_here a = own_where (standing whole) a

      abbrev ValueEnds : List Line → Type 0
      ValueEnds lines = Ends value_to value_name (λ line t. (named line).value t) (λ a. a) refl whole alike lines

      abbrev LocationEnds : List Line → Type 0
      LocationEnds lines = Ends location_to location_name (λ line t. (named line).location t) told_here refl whole alike lines

      value_may : (line : Line) (k : List Line) (o : Option ℕ) → value_to line ≡ o → fit line ≡ true → ValueEnds (line ∷ k) →
          is_value_as hs o (alias_by line (length (texts_of k))) ≡ true
      value_may line k None e f ends = refl
      value_may line k (Some t) e f ends = by (finds.value t)
        where
          here : is_it t (value_to line) ≡ true
          here = ap (is_it t) e ∙ eq-eqb t t refl

          name : Alias
          name = alias_by line (length (texts_of k))

          own : (a : Alias) → a ≡ Own → (same_alias a Own || same_alias a name) ≡ true
          own a e = ap (λ c. same_alias c Own || same_alias c name) e

          literal : (a : Alias) → a ≡ own_literal (homed whole) t (alias_in value_to t whole)
              → (own_literal (homed whole) t (alias_in value_to t whole) ≡ Own)
              ⊎ (own_literal (homed whole) t (alias_in value_to t whole) ≡ alias_in value_to t whole) → (same_alias a Own || same_alias a name) ≡ true
          literal a e (inl is) = own a (e ∙ is)
          literal a e (inr is) =
              or_right (same_alias a Own) _ (ap (λ c. same_alias c name) (e ∙ is)
              ∙ agrees value_to value_name (λ line t. (named line).value t) (λ a. a) refl whole alike t line k ends here)

          by : ((found is_value t hs).alias ≡ own_literal (homed whole) t (alias_in value_to t whole))
              ⊎ (((found is_value t hs).alias ≡ Own) × ((p : FlatPlace) → place_named is_value places t ≡ Some p → is_counter p.kind ≡ true)) →
              (same_alias (found is_value t hs).alias Own || same_alias (found is_value t hs).alias name) ≡ true
          by (inl a) = literal (found is_value t hs).alias a (own_or_literal (homed whole) t (alias_in value_to t whole))
          by (inr q) = own (found is_value t hs).alias q.0

      location_may : (line : Line) (k : List Line) (o : Option ℕ) → location_to line ≡ o → fit line ≡ true → LocationEnds (line ∷ k) →
          is_as is_location hs o (told_here (alias_by line (length (texts_of k)))) ≡ true
      location_may line k None e f ends = refl
      location_may line k (Some t) e f ends = by (finds.location t)
        where
          here : is_it t (location_to line) ≡ true
          here = ap (is_it t) e ∙ eq-eqb t t refl

          by : ((found is_location t hs).alias ≡ told_here (alias_in location_to t whole))
              ⊎ (((found is_location t hs).alias ≡ Own) × (place_named is_location places t ≡ None)) →
              same_alias (found is_location t hs).alias (told_here (alias_by line (length (texts_of k)))) ≡ true
          by (inl a) = ap (λ x. same_alias x (told_here (alias_by line (length (texts_of k))))) a
              ∙ agrees location_to location_name (λ line t. (named line).location t) told_here refl whole alike t line k ends here
          by (inr q) = ap₂ same_alias q.0 (ap told_here (led_own line (length (texts_of k)) t e f q.1))

      homed_own : (t : ℕ) → is_among t (homed whole) ≡ true → (found is_value t hs).alias ≡ Own
      homed_own t i = by (finds.value t)
        where
          by : ((found is_value t hs).alias ≡ own_literal (homed whole) t (alias_in value_to t whole))
              ⊎ (((found is_value t hs).alias ≡ Own) × ((p : FlatPlace) → place_named is_value places t ≡ Some p → is_counter p.kind ≡ true)) →
              (found is_value t hs).alias ≡ Own
          by (inl a) = a ∙ literal_homed (homed whole) t (alias_in value_to t whole) i (value_name_is t whole)
          by (inr q) = q.0

      from_own : (from : List From) → ((t : ℕ) → is_among t (values_in from) ≡ true → is_among t (homed whole) ≡ true) → own_values hs from ≡ true
      from_own [] h = refl
      from_own (F.Value t ∷ from) h =
          and_from _ _ (ap (λ a. same_alias a Own) (homed_own t (h t (ap (λ b. b || is_among t (values_in from)) (eq-eqb t t refl)))))
          (from_own from (λ u i. h u (among_behind u (t ∷ []) (values_in from) i)))
      from_own (F.Place t ∷ from) h = from_own from h

      -- own_values (homed_by line) of each line
      abbrev AllOwn : List Line → Type 0
      AllOwn [] = Unit {0}
      AllOwn (line ∷ k) = (own_values hs (homed_by line) ≡ true) × AllOwn k

      all_own : (lines : List Line) → ((t : ℕ) → is_among t (homed lines) ≡ true → is_among t (homed whole) ≡ true) → AllOwn lines
      all_own [] h = tt
      all_own (line ∷ k) h = (
        from_own (homed_by line) (λ t i. h t (among_front t (values_in (homed_by line)) (homed k) i)),
        all_own k (λ t i. h t (among_behind t (values_in (homed_by line)) (homed k) i)),
      )

      pub owned_values : AllOwn whole
      owned_values = all_own whole (λ t i. i)

      all_may : (lines : List Line) → ValueEnds lines → LocationEnds lines → all_fit (known_in table) procs globals places lines ≡ true →
          AreBuiltLines (known_in table) lines → AllOwn lines → AreLed table hs lines → lines_may table hs (standing whole) lines ≡ true
      all_may [] v l f r own led = refl
      all_may (line ∷ k) v l f r own led =
          let q = and_parts (fit line) (all_fit (known_in table) procs globals places k) f in
          and_from _ _
          (and_from _ _ (value_may line k (value_to line) refl q.0 v)
          (and_from _ _ (location_may line k (location_to line) refl q.0 l)
          (and_from _ _ (coded line r.0 led.1) (and_from _ _ own.0 led.0))))
          (all_may k (ends_behind value_to value_name (λ line t. (named line).value t) (λ a. a) refl whole alike line k v)
          (ends_behind location_to location_name (λ line t. (named line).location t) told_here refl whole alike line k l) q.1 r.1 own.1 led.2)

      pub may : all_fit (known_in table) procs globals places whole ≡ true → AreBuiltLines (known_in table) whole → AreLed table hs whole
          → lines_may table hs (standing whole) whole ≡ true
      may f r led =
          all_may whole (record { gives = λ n holds b h. h; any = λ t h. h }) (record { gives = λ n holds b h. h; any = λ t h. h }) f r owned_values led
