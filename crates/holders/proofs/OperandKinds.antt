-- What becomes of operands, by the kinds of their expressions.
use Rattle.std.proofs.Common.{◌≡◌, refl, sym, ap, subst, ◌∙◌, ℕ, ◌+◌, Bool, true, false, List, [], ◌∷◌, ◌++◌, length, Option, Some, ◌⊎◌, inl, inr, ap₂}
use Rattle.std.specs.Prelude.{◌&&◌, not}
use Rattle.std.proofs.lemmas.Bool.{false≢true, and_left, and_right, and_parts}
use Rattle.nim_types.specs.Types.{Ty, Facts}
use Rattle.nim_types.specs.Forms.{Form}
use Rattle.nim_program.specs.declared.expr.Node.{Node}
use Rattle.nim_program.specs.declared.operation.Use.{Use}
use Rattle.nim_program.specs.declared.operation.Use.TheVariants.{Lent, Looked}
use Rattle.nim_program.specs.declared.program.Mode.{Mode}
use Rattle.nim_program.specs.Program.{Act, Doing, Building, Giving, Calling, Number as ANumber, Characters, NoObject, PartsOf, ElementsOf}
use Rattle.nim_program.specs.Program.{Expr, Apply, Read, Early, Choose, Path, Args, NoArg, ByValue, ByPath, type_of, type_at, node_at}
use Rattle.nim_program.specs.Scopes as scopes
use Rattle.nim_meaning.specs.Values.{Value, Location, Given}
use Rattle.nim_meaning.specs.State.{World}
use Rattle.nim_meaning.specs.Here.{Here, gives_hooked, form_for}
use Rattle.nim_meaning.specs.Waiting.{Wait, wait_if, waiting, reads_kept}
use Rattle.nim_meaning.specs.Shapes.{has_node, is_read, is_text, is_lent, is_held as is_held_use, waits, waits_from}
use Rattle.nim_meaning.specs.Aims.{Aim, Waits_at, Ready, is_lent_own, operand_for}
use Rattle.holders.specs.Territory.{Owner}
use Rattle.holders.specs.Ways.{Step}
use Rattle.holders.specs.Finding.{Found, in_cell, to_be_read, AimsAt, at_root, at_constant, at_value, at_waiting, at_field, at_element}
use Rattle.holders.proofs.Working.{among_second, number_second}
use Rattle.holders.proofs.Scenes.{place_second}
use Rattle.holders.specs.Asked.{Limits}
use Rattle.holders.specs.Evaluating.{waits_itself}
use Rattle.holders.specs.Evaluating.{Aims, at_place, at_made, Hand}
use Rattle.holders.specs.Evaluating.{Readied, none_ready, bare_ready, held_ready, lent_ready, aim_ready, seen_ready, copy_ready, hand_ready}
use Rattle.holders.proofs.Claims.{aims_first, none_is_one}
use Rattle.holders.specs.Evaluating.{IsBare}
use Rattle.holders.proofs.Constants.{hooked_is}
use Rattle.nim_types.specs.Forms.{hooked}

-- ---- among more cells

pub owners_assoc : (ms ks os : List Owner) → ms ++ (ks ++ os) ≡ (ms ++ ks) ++ os
owners_assoc [] ks os = refl
owners_assoc (m ∷ ms) ks os = ap (λ (ps : List Owner). m ∷ ps) (owners_assoc ms ks os)

pub aims_second : (ms : List Owner) {ks : List Owner} {world : World} {b : Bool} {n : ℕ} {aim : Aim} {f : Form} → AimsAt ks world b n aim f →
    AimsAt (ms ++ ks) world b (length ms + n) aim f
aims_second ms (at_root p) = at_root (place_second ms p)
aims_second ms (at_constant h) = at_constant h
aims_second ms (at_value h) = at_value h
aims_second ms {ks} {world} {b} {f = f} (at_waiting {level = level} {node = node} i) =
    subst (λ n. AimsAt (ms ++ ks) world b n (Waits_at level node) f) (number_second ms i) (at_waiting (among_second ms i))
aims_second ms (at_field a p) = at_field (aims_second ms a) p
aims_second ms (at_element a p) = at_element (aims_second ms a) p

pub found_second : (ms : List Owner) {ks : List Owner} {world : World} {b : Bool} {n : ℕ} {steps : List Step} {f : Form} {l : Location} →
    Found ks world b n steps f l → Found (ms ++ ks) world b (length ms + n) steps f l
found_second ms {ks} {world} {b} {steps = steps} {f = f} {l = l} (in_cell c goes) =
    subst (λ n. Found (ms ++ ks) world b n steps f l) (number_second ms c.at)
    (in_cell (record { from = c.from; at = among_second ms c.at; path = c.path; way = c.way }) goes)
found_second ms (to_be_read made from h) = to_be_read made from h

module _ {here : Here} {scope : scopes.Here} {limits : Limits} {root : (global : Bool) → ℕ → ℕ} {os : List Owner} where
  pub aims_more : {ms : List Owner} (ks : List Owner) {path : Path} {f : Form} {aim : Aim} → Aims here scope limits root ms os path f aim →
      Aims here scope limits root (ms ++ ks) os path f aim
  aims_more ks (at_place h steps fresh) = at_place h steps fresh
  aims_more ks (at_made unwritten h fresh) = at_made unwritten (λ world. aims_first ks (h world)) fresh

  pub aims_behind : (ms : List Owner) {ks : List Owner} {path : Path} {f : Form} {aim : Aim} → Aims here scope limits root ks os path f aim →
      Aims here scope limits root (ms ++ ks) os path f aim
  aims_behind ms (at_place h steps fresh) = at_place h steps fresh
  aims_behind ms (at_made unwritten h fresh) = at_made unwritten (λ world. aims_second ms (h world)) fresh

  module _ (uses : (position : ℕ) → Use) where
    -- behind cells of what came before
    pub readied_behind : (ms : List Owner) {ks : List Owner} {now : World} {h : Hand} {args : Args} {i : ℕ} {xs : List Ready} →
        Readied here scope limits root uses ks os now h args i xs → Readied here scope limits root uses (ms ++ ks) os now h args i xs
    readied_behind ms none_ready = none_ready
    readied_behind ms (bare_ready which h rest) = bare_ready which h (readied_behind ms rest)
    readied_behind ms (held_ready purpose hooked i base rest) = held_ready purpose hooked (among_second ms i) base (readied_behind ms rest)
    readied_behind ms (lent_ready purpose hooked own i rest) = lent_ready purpose hooked own (among_second ms i) (readied_behind ms rest)
    readied_behind ms (aim_ready a rest) = aim_ready (aims_behind ms a) (readied_behind ms rest)
    readied_behind ms (seen_ready purpose h) = seen_ready purpose h
    readied_behind ms {ks} {now} (copy_ready {value = value} {n = n} {steps = steps} {l = l} purpose hooked found) =
        copy_ready {n = length ms + n} purpose hooked
        (subst (λ ps. Found ps now false (length ms + n) steps (form_for here.facts (type_of value)) l) (owners_assoc ms ks os) (found_second ms found))
    readied_behind ms (hand_ready purpose hooked) = hand_ready purpose hooked

-- ---- the operand that a value becomes

-- a literal text, or another value
pub data ActView (act : Act) : Type 0 where
  a_literal : ((how : Use) → waits_from act how ≡ is_held_use how) →
      ((node : Node) (ty : Option Ty) (operands : Args) → is_text (Apply node ty act operands) ≡ true) →
      ActView act
  another : ((how : Use) → waits_from act how ≡ waits how) → ((node : Node) (ty : Option Ty) (operands : Args) → is_text (Apply node ty act operands) ≡ false) →
      ActView act

pub act_view : (act : Act) → ActView act
act_view (Giving (Characters t)) = a_literal (λ how. refl) (λ node ty operands. refl)
act_view (Giving (ANumber z)) = another (λ how. refl) (λ node ty operands. refl)
act_view (Giving NoObject) = another (λ how. refl) (λ node ty operands. refl)
act_view (Giving (PartsOf all)) = another (λ how. refl) (λ node ty operands. refl)
act_view (Giving (ElementsOf all)) = another (λ how. refl) (λ node ty operands. refl)
act_view (Doing operation) = another (λ how. refl) (λ node ty operands. refl)
act_view (Building fields) = another (λ how. refl) (λ node ty operands. refl)
act_view (Calling proc types) = another (λ how. refl) (λ node ty operands. refl)

-- what typing says of a value: a path that is read has a node, and what stops early is a bool
abbrev pub Regular : Facts → Expr → Type 0
Regular facts (Apply node ty act operands) = Unit {0}
Regular facts (Read path) = has_node path ≡ true
Regular facts (Early node ty short left right) = gives_hooked facts (Some ty) ≡ false
Regular facts (Choose node ty chooser parts) = Unit {0}

abbrev pub AllRegular : Facts → Args → Type 0
AllRegular facts NoArg = Unit {0}
AllRegular facts (ByValue value rest) = Regular facts value × AllRegular facts rest
AllRegular facts (ByPath path rest) = AllRegular facts rest

pub by_own : (b : Bool) {w : Wait} {ws : List Wait} (node : ℕ) (ty : Option Ty) (f : Form) → wait_if b node ty f ≡ w ∷ ws → b ≡ true
by_own true node ty f e = refl
by_own false node ty f e = absurd (none_is_one e)

pub no_own : (b : Bool) (node : ℕ) (ty : Option Ty) (f : Form) → wait_if b node ty f ≡ [] → b ≡ false
no_own true node ty f e = absurd (none_is_one (sym e))
no_own false node ty f e = refl

pub no_hooks : (a b : Bool) → b ≡ true → a && b ≡ false → a ≡ false
no_hooks true b q e = absurd (false≢true (sym e ∙ q))
no_hooks false b q e = refl

module _ (facts : Facts) (modes : (proc position : ℕ) → Mode) where
  pub plain_operand : (e : Expr) (how : Use) (level node : ℕ) (v : Value) → gives_hooked facts (type_of e) ≡ false →
      operand_for (is_lent_own facts how e) level node v ≡ Given v
  plain_operand e how level node v q = ap (λ h. operand_for (h && (is_lent how && not (is_text e))) level node v) q

  pub not_lent : (e : Expr) (how : Use) (level node : ℕ) (v : Value) → is_lent how ≡ false → operand_for (is_lent_own facts how e) level node v ≡ Given v
  not_lent e how level node v q =
      ap (λ b. operand_for b level node v)
      (and_right (gives_hooked facts (type_of e)) (is_lent how && not (is_text e)) (and_left (is_lent how) (not (is_text e)) q))

  -- what is lent, and doesn't wait, stands by itself
  pub lent_none : (e : Expr) → Regular facts e → waits_itself facts modes e Lent ≡ [] → is_lent_own facts Lent e ≡ false
  lent_none (Apply n ty act operands) regular q = by (act_view act)
    where
      by : ActView act → gives_hooked facts ty && (true && not (is_text (Apply n ty act operands))) ≡ false
      by (a_literal waiting text) = and_right (gives_hooked facts ty) (not (is_text (Apply n ty act operands))) (ap not (text n ty operands))
      by (another waiting text) =
          and_left (gives_hooked facts ty) (not (is_text (Apply n ty act operands)))
          (no_hooks (gives_hooked facts ty) (waits_from act Lent) (waiting Lent)
          (no_own (gives_hooked facts ty && waits_from act Lent) n.number ty (form_for facts ty) q))
  lent_none (Read path) regular q =
      and_left (gives_hooked facts (type_at path)) true
      (no_hooks (gives_hooked facts (type_at path)) (has_node path && true) (ap (λ b. b && true) regular)
      (no_own (gives_hooked facts (type_at path) && (has_node path && true)) (node_at path).number (type_at path) (form_for facts (type_at path)) q))
  lent_none (Early n ty short left right) regular q = and_left (gives_hooked facts (Some ty)) true regular
  lent_none (Choose n ty chooser parts) regular q =
      and_left (gives_hooked facts ty) true (no_hooks (gives_hooked facts ty) true refl
      (no_own (gives_hooked facts ty && true) n.number ty (form_for facts ty) q))

  pub record Own (e : Expr) : Type 0 where
    pub hooks : gives_hooked facts (type_of e) ≡ true
    pub text : is_text e ≡ false

  pub lent_one : (e : Expr) {w : Wait} → waits_itself facts modes e Lent ≡ w ∷ [] → Own e
  lent_one (Apply n ty act operands) {w} q = by (act_view act)
    where
      waiting : gives_hooked facts ty && waits_from act Lent ≡ true
      waiting = by_own (gives_hooked facts ty && waits_from act Lent) n.number ty (form_for facts ty) q

      by : ActView act → Own (Apply n ty act operands)
      by (a_literal held text) = absurd (false≢true (sym (held Lent) ∙ (and_parts (gives_hooked facts ty) (waits_from act Lent) waiting).1))
      by (another held text) = record { hooks = (and_parts (gives_hooked facts ty) (waits_from act Lent) waiting).0; text = text n ty operands }
  lent_one (Read path) {w} q = record {
    hooks = (and_parts (gives_hooked facts (type_at path)) (has_node path && true)
        (by_own (gives_hooked facts (type_at path) && (has_node path && true)) (node_at path).number (type_at path) (form_for facts (type_at path)) q)).0;
    text = refl;
  }
  lent_one (Early n ty short left right) q = absurd (none_is_one q)
  lent_one (Choose n ty chooser parts) {w} q = record {
    hooks = (and_parts (gives_hooked facts ty) true (by_own (gives_hooked facts ty && true) n.number ty (form_for facts ty) q)).0;
    text = refl;
  }

  -- it has hooks
  pub one_hooked : (e : Expr) (how : Use) {w : Wait} → waits_itself facts modes e how ≡ w ∷ [] → gives_hooked facts (type_of e) ≡ true
  one_hooked (Apply n ty act operands) how q =
      (and_parts (gives_hooked facts ty) (waits_from act how)
      (by_own (gives_hooked facts ty && waits_from act how) n.number ty (form_for facts ty) q)).0
  one_hooked (Read path) how q =
      (and_parts (gives_hooked facts (type_at path)) (is_read (Read path) && reads_kept how)
      (by_own (gives_hooked facts (type_at path) && (is_read (Read path) && reads_kept how)) (node_at path).number (type_at path)
      (form_for facts (type_at path)) q)).0
  one_hooked (Early n ty short left right) how q = absurd (none_is_one q)
  one_hooked (Choose n ty chooser parts) how q =
      (and_parts (gives_hooked facts ty) (waits how) (by_own (gives_hooked facts ty && waits how) n.number ty (form_for facts ty) q)).0

  pub no_wait : (hooks b : Bool) (node : ℕ) (ty : Option Ty) (f : Form) → b ≡ false → wait_if (hooks && b) node ty f ≡ []
  no_wait hooks b node ty f q = ap (λ x. wait_if x node ty f) (and_right hooks b q)

  -- nothing waits that goes on
  pub owned_none : (e : Expr) (how : Use) → waits how ≡ false → is_held_use how ≡ false → reads_kept how ≡ false → waits_itself facts modes e how ≡ []
  owned_none (Apply n ty act operands) how a b c = by (act_view act)
    where
      by : ActView act → wait_if (gives_hooked facts ty && waits_from act how) n.number ty (form_for facts ty) ≡ []
      by (a_literal held text) = no_wait (gives_hooked facts ty) (waits_from act how) n.number ty (form_for facts ty) (held how ∙ b)
      by (another held text) = no_wait (gives_hooked facts ty) (waits_from act how) n.number ty (form_for facts ty) (held how ∙ a)
  owned_none (Read path) how a b c =
      no_wait (gives_hooked facts (type_at path)) (is_read (Read path) && reads_kept how) (node_at path).number (type_at path) (form_for facts (type_at path))
      (and_right (is_read (Read path)) (reads_kept how) c)
  owned_none (Early n ty short left right) how a b c = refl
  owned_none (Choose n ty chooser parts) how a b c = no_wait (gives_hooked facts ty) (waits how) n.number ty (form_for facts ty) a

-- what is lent, and doesn't wait, is a literal text
pub bare_for : (facts : Facts) (how : Use) (value : Expr) → (hooked (form_for facts (type_of value)) ≡ false) ⊎ ((how ≡ Lent) ⊎ (how ≡ Looked)) →
    is_lent_own facts how value ≡ false → IsBare facts how value
bare_for facts how value (inl unhooked) own = inl unhooked
bare_for facts how value (inr (inr look)) own = inr (inr look)
bare_for facts how value (inr (inl lent)) own = by (gives_hooked facts (type_of value)) refl (is_text value) refl
  where
    by : (b : Bool) → gives_hooked facts (type_of value) ≡ b → (c : Bool) → is_text value ≡ c → IsBare facts how value
    by false e c t = inl (sym (hooked_is facts (type_of value)) ∙ e)
    by true e true t = inr (inl (lent, t))
    by true e false t = absurd (false≢true (sym own ∙ ap₂ (λ m n. m && n) e (ap₂ (λ m n. m && not n) (ap is_lent lent) t)))
