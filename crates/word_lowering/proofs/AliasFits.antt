-- What the lines say, which fit, of temporaries that are other names.
use Rattle.std.proofs.Common.{◌≡◌, ◌⊎◌, inl, inr, ℕ, Bool, true, false, List, [], ◌∷◌, length, Option, Some, None, refl, sym, ap, subst, ◌∙◌}
use Rattle.std.specs.Prelude.{◌&&◌, not, if◌then◌else◌}
use Rattle.std.proofs.lemmas.Bool.{and_parts, eqb-true, not-true}
use Rattle.nim_types.specs.Types.{Ty}
use Rattle.nim_types.specs.Table.{type_at}
use Rattle.nim_program.specs.Kinds.{is_of}
use Rattle.nim_meaning.specs.Values.{Fixed}
use Rattle.flat_code.specs.declared.line.Line.{Line}
use Rattle.flat_code.specs.declared.line.Line.TheVariants as L
use Rattle.flat_code.specs.declared.line.Piece.{Piece}
use Rattle.flat_code.specs.declared.line.Piece.TheVariants as P
use Rattle.flat_code.specs.declared.place.FlatPlace.{FlatPlace}
use Rattle.flat_code.specs.Pieces.{value_of, are_one}
use Rattle.flat_code.specs.Scene.{Known}
use Rattle.flat_code.specs.Shapes.{Shape, block, shape_of, has_shape}
use Rattle.flat_code.specs.Fits.{Signature, value, location, any_place, may_write, fits, all_fit}
use Rattle.word_lowering.specs.declared.homes.Alias.{Alias}
use Rattle.word_lowering.specs.declared.homes.Alias.TheVariants as alias
use Rattle.word_lowering.specs.Aliases.{value_to, location_to, is_read, text_in, texts_of, text_alias, alias_by, is_it, alias_in}
use Rattle.flat_code.specs.PieceShapes.{has_pieces}
use Rattle.word_lowering.proofs.LineFits.{are_of}
use Rattle.word_lowering.proofs.Options.{none_some, some_same}
use Rattle.word_lowering.proofs.ShapeFacts.{never}

-- ---- names that differ

no_place : {A : Type 0} (p : ℕ) (global : Bool) → alias.Own ≡ alias.Place p global → A
no_place p global e = absurd cc

value_no_place : {A : Type 0} (t p : ℕ) (global : Bool) → alias.Value t ≡ alias.Place p global → A
value_no_place t p global e = absurd cc

node_no_place : {A : Type 0} (n p : ℕ) (global : Bool) → alias.Node n ≡ alias.Place p global → A
node_no_place n p global e = absurd (no n p global e)
  where
    no : (n p : ℕ) (global : Bool) → alias.Node n ≡ alias.Place p global → ⊥
    no n p global e = cc

node_no_value : {A : Type 0} (n t : ℕ) → alias.Node n ≡ alias.Value t → A
node_no_value n t e = absurd (no n t e)
  where
    no : (n t : ℕ) → alias.Node n ≡ alias.Value t → ⊥
    no n t e = cc

no_value : {A : Type 0} (t : ℕ) → alias.Own ≡ alias.Value t → A
no_value t e = absurd cc

place_no_value : {A : Type 0} (p : ℕ) (global : Bool) (t : ℕ) → alias.Place p global ≡ alias.Value t → A
place_no_value p global t e = absurd cc

same_place : (p q : ℕ) (a b : Bool) → alias.Place p a ≡ alias.Place q b → (p ≡ q) × (a ≡ b)
same_place p q a b e = (cc, cc)

pub same_value : (t u : ℕ) → alias.Value t ≡ alias.Value u → t ≡ u
same_value t u e = cc

none_given : {A : Type 0} (t : ℕ) → None ≡ Some t → A
none_given t e = absurd (none_some t e)

module _ (known : Known) (procs : List Signature) (globals places : List FlatPlace) where
  abbrev value_at : ℕ → Option Ty
  value_at t = value known procs globals places t

  abbrev location_at : ℕ → Option Ty
  location_at t = location known procs globals places t

  abbrev fits_here : Line → Bool
  fits_here line = fits known procs globals places line

  -- ---- the line that says it

  pub record GivenBy (given : Line → Option ℕ) (t : ℕ) (name : Alias) : Type 0 where
    pub line : Line
    pub behind : ℕ
    pub gives : given line ≡ Some t
    pub is : alias_by line behind ≡ name
    pub fit : fits_here line ≡ true

  gives_it : (t : ℕ) (o : Option ℕ) → is_it t o ≡ true → o ≡ Some t
  gives_it t None h = never h
  gives_it t (Some u) h = ap Some (eqb-true u t h)

  pub given_by : (given : Line → Option ℕ) (t : ℕ) (lines : List Line) → all_fit known procs globals places lines ≡ true
      → (alias_in given t lines ≡ alias.Own) ⊎ GivenBy given t (alias_in given t lines)
  given_by given t [] h = inl refl
  given_by given t (line ∷ rest) h = by (is_it t (given line)) refl (given_by given t rest (and_parts _ _ h).1)
    where
      name : Alias
      name = alias_by line (length (texts_of rest))

      by : (b : Bool) → is_it t (given line) ≡ b → (alias_in given t rest ≡ alias.Own) ⊎ GivenBy given t (alias_in given t rest)
          → ((if is_it t (given line) then name else alias_in given t rest) ≡ alias.Own)
          ⊎ GivenBy given t (if is_it t (given line) then name else alias_in given t rest)
      by true e r = inr (record {
        line = line;
        behind = length (texts_of rest);
        gives = gives_it t (given line) e;
        is = sym (ap (λ b. if b then name else alias_in given t rest) e);
        fit = (and_parts _ _ h).0;
      })
      by false e (inl r) = inl (ap (λ b. if b then name else alias_in given t rest) e ∙ r)
      by false e (inr r) = inr (record {
        line = r.line;
        behind = r.behind;
        gives = r.gives;
        is = r.is ∙ sym (ap (λ b. if b then name else alias_in given t rest) e);
        fit = r.fit;
      })

  -- ---- a place

  pub record Rooted (t p : ℕ) (global : Bool) : Type 0 where
    pub ty : Ty
    pub location : location_at t ≡ Some ty
    pub place : any_place known procs globals places p global ≡ Some ty

  rooted_as : (t to p q : ℕ) (a b : Bool) → to ≡ t → (q ≡ p) × (b ≡ a) → fits_here (L.Root to q b) ≡ true → Rooted t p a
  rooted_as t to p q a b same e h =
      let f : fits_here (L.Root t p a) ≡ true =
      subst (λ z. fits_here (L.Root z p a) ≡ true) same
      (subst (λ z. fits_here (L.Root to z a) ≡ true) e.0 (subst (λ z. fits_here (L.Root to q z) ≡ true) e.1 h)) in
      let r = are_of (location_at t) (any_place known procs globals places p a) (and_parts _ _ f).0 in
      record { ty = r.ty; location = r.is; place = r.is_other }

  rooted_by : (t p : ℕ) (global : Bool) (line : Line) (behind : ℕ) → location_to line ≡ Some t → alias_by line behind ≡ alias.Place p global
      → fits_here line ≡ true → Rooted t p global
  rooted_by t p global (L.Root to q other) behind g e h = rooted_as t to p q global other (some_same to t g) (same_place q p other global e) h
  rooted_by t p global (L.Fresh to from None) behind g e h = value_no_place from p global e
  rooted_by t p global (L.Fresh to from (Some node)) behind g e h = node_no_place node p global e
  rooted_by t p global (L.Constant to how ty pieces) behind g e h = none_given t g
  rooted_by t p global line behind g e h = no_place p global e

  pub rooted : (t p : ℕ) (global : Bool) → GivenBy location_to t (alias.Place p global) → Rooted t p global
  rooted t p global r = rooted_by t p global r.line r.behind r.gives r.is r.fit

  -- ---- a value

  pub record Entered (t u : ℕ) : Type 0 where
    pub ty : Ty
    pub location : location_at t ≡ Some ty
    pub value : value_at u ≡ Some ty
    pub read_only : may_write known procs globals places t ≡ false

  entered_as : (t to u from : ℕ) (waits : Option ℕ) → to ≡ t → from ≡ u → fits_here (L.Fresh to from waits) ≡ true → Entered t u
  entered_as t to u from waits same e h =
      let f : fits_here (L.Fresh t u waits) ≡ true =
      subst (λ z. fits_here (L.Fresh z u waits) ≡ true) same (subst (λ z. fits_here (L.Fresh to z waits) ≡ true) e h) in
      let q = and_parts (is_of (location_at t) (value_at u)) _ f in
      let r = are_of (location_at t) (value_at u) q.0 in
      record {
        ty = r.ty;
        location = r.is;
        value = r.is_other;
        read_only = not-true (may_write known procs globals places t)
            (and_parts (not (may_write known procs globals places t)) _ q.1).0;
      }

  entered_by : (t u : ℕ) (line : Line) (behind : ℕ) → location_to line ≡ Some t → alias_by line behind ≡ alias.Value u → fits_here line ≡ true
      → Entered t u
  entered_by t u (L.Root to q other) behind g e h = place_no_value q other u e
  entered_by t u (L.Fresh to from None) behind g e h = entered_as t to u from None (some_same to t g) (same_value from u e) h
  entered_by t u (L.Fresh to from (Some node)) behind g e h = node_no_value node u e
  entered_by t u (L.Constant to how ty pieces) behind g e h = none_given t g
  entered_by t u line behind g e h = no_value u e

  pub entered : (t u : ℕ) → GivenBy location_to t (alias.Value u) → Entered t u
  entered t u r = entered_by t u r.line r.behind r.gives r.is r.fit

  -- no location is another name for a text
  location_text : (t behind bytes : ℕ) (line : Line) (n : ℕ) → location_to line ≡ Some t → alias_by line n ≡ alias.Text behind bytes → ⊥
  location_text t behind bytes (L.Root to q other) n g e = cc
  location_text t behind bytes (L.Fresh to from None) n g e = cc
  location_text t behind bytes (L.Fresh to from (Some node)) n g e = cc
  location_text t behind bytes (L.Constant to how ty pieces) n g e = none_given t g
  location_text t behind bytes line n g e = cc

  pub no_text_location : (t behind bytes : ℕ) → GivenBy location_to t (alias.Text behind bytes) → ⊥
  no_text_location t behind bytes r = location_text t behind bytes r.line r.behind r.gives r.is

  -- ---- a text

  text_shape : (s : Shape) (text : List ℕ) → has_shape (Fixed text) s ≡ true → s ≡ block
  text_shape block text h = refl
  text_shape s text h = never h

  pub record Written (t : ℕ) (name : Alias) : Type 0 where
    pub behind : ℕ
    pub bytes : ℕ
    pub is : name ≡ alias.Text behind bytes
    pub ty : Ty
    pub value : value_at t ≡ Some ty
    pub shape : shape_of known.facts ty ≡ block

  written_as : (t to ty n : ℕ) (text : List ℕ) → to ≡ t → is_of (value_at to) (Some (type_at known.types ty)) ≡ true
      → has_shape (Fixed text) (shape_of known.facts (type_at known.types ty)) ≡ true → Written t (alias.Text n (length text))
  written_as t to ty n text same typed shaped =
      let r = are_of (value_at t) (Some (type_at known.types ty)) (subst (λ z. is_of (value_at z) (Some (type_at known.types ty)) ≡ true) same typed) in
      record {
        behind = n;
        bytes = length text;
        is = refl;
        ty = r.ty;
        value = r.is;
        shape = ap (shape_of known.facts) (sym (some_same (type_at known.types ty) r.ty r.is_other))
            ∙ text_shape (shape_of known.facts (type_at known.types ty)) text shaped;
      }

  pieces_written : (read : Bool) (t to ty n : ℕ) (pieces : List Piece) → to ≡ t → is_of (value_at to) (Some (type_at known.types ty)) ≡ true
      → has_shape (value_of pieces) (shape_of known.facts (type_at known.types ty)) ≡ true
      → (text_alias read n (text_in pieces) ≡ alias.Own) ⊎ Written t (text_alias read n (text_in pieces))
  pieces_written false t to ty n (P.Text text ∷ []) same typed shaped = inl refl
  pieces_written true t to ty n (P.Text text ∷ []) same typed shaped = inr (written_as t to ty n text same typed shaped)
  pieces_written read t to ty n pieces same typed shaped = inl refl

  value_by : (t : ℕ) (line : Line) (n : ℕ) → value_to line ≡ Some t → fits_here line ≡ true
      → (alias_by line n ≡ alias.Own) ⊎ Written t (alias_by line n)
  value_by t (L.Root to q other) n g h = none_given t g
  value_by t (L.Fresh to from waits) n g h = none_given t g
  value_by t (L.Constant to how ty pieces) n g h =
      let typed : Bool = is_of (value_at to) (Some (type_at known.types ty)) in
      let s : Shape = shape_of known.facts (type_at known.types ty) in
      let q = and_parts (are_one pieces 0 && has_pieces s pieces) typed h in
      let shaped = and_parts (has_shape (value_of pieces) s) _ (and_parts (are_one pieces 0) (has_pieces s pieces) q.0).1 in
      pieces_written (is_read how.how) t to ty n pieces (some_same to t g) q.1 shaped.0
  value_by t line n g h = inl refl

  -- a temporary with a value is another name for a text alone
  pub value_name : (t : ℕ) (lines : List Line) → all_fit known procs globals places lines ≡ true
      → (alias_in value_to t lines ≡ alias.Own) ⊎ Written t (alias_in value_to t lines)
  value_name t lines h = by (given_by value_to t lines h)
    where
      named : Alias
      named = alias_in value_to t lines

      by : (named ≡ alias.Own) ⊎ GivenBy value_to t named → (named ≡ alias.Own) ⊎ Written t named
      by (inl e) = inl e
      by (inr r) = subst (λ a. (a ≡ alias.Own) ⊎ Written t a) r.is (value_by t r.line r.behind r.gives r.fit)
