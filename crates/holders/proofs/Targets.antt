-- What a call works on: the cells where its operands lead that are handed over by name, and the globals that the procedure names. They part.
use Rattle.std.proofs.Common.{◌≡◌, refl, sym, ap, subst, ◌∙◌, arith, ℕ, zero, suc, ◌+◌, ◌<◌, Bool, true, List, [], ◌∷◌, ◌++◌, length}
use Rattle.nim_types.specs.Types.{Facts}
use Rattle.nim_types.specs.Forms.{Form, plain, form_of}
use Rattle.nim_program.specs.declared.operation.Use.{Use}
use Rattle.nim_program.specs.Program.{Args, type_of, node_of}
use Rattle.nim_program.specs.Scopes.{Placed}
use Rattle.nim_meaning.specs.Values.{Standing, Waiting, Location, at_base, nowhere, Operand}
use Rattle.nim_meaning.specs.Marks.{Member}
use Rattle.nim_meaning.specs.State.{World}
use Rattle.nim_meaning.specs.Here.{Here, form_for}
use Rattle.holders.specs.Territory.{Owner, Among, first_owner, later_owner}
use Rattle.holders.specs.Working.{number}
use Rattle.holders.specs.Ways.{Step, Differ, Goes, goes_nowhere, arrived, Chain, ChainsPart, Chains, AllPart, targets_of}
use Rattle.holders.specs.Finding.{Found, in_cell, PlaceOf, own_place, a_name_of}
use Rattle.holders.specs.Asked.{Limits}
use Rattle.holders.specs.Evaluating.{root_at, path_steps}
use Rattle.holders.specs.Procedures.{AllPaths}
use Rattle.holders.proofs.PathLemmas.{ways_back}
use Rattle.holders.proofs.Working.{same_owner, among_first, among_second, number_first, number_second, number_below}
use Rattle.holders.proofs.Separating.{differ_part}
use Rattle.holders.proofs.WaitingTaken.{waiting_node, own_numbers, own_rest, own_first, Taken, none_taken, bare_taken, held_taken, lent_taken, place_taken}
use Rattle.holders.proofs.WaitingTaken.{Second}

-- ---- targets

-- where one begins: at what waits, or at a place by its position, with steps
pub data Key : Type 0 where
  at_node : (node : ℕ) → Key
  at_root : (root : ℕ) → List Step → Key

abbrev pub KeysPart : Key → Key → Type 0
KeysPart (at_node m) (at_node n) = m ≡ n → ⊥
KeysPart (at_node m) (at_root q b) = Unit {0}
KeysPart (at_root r a) (at_node n) = Unit {0}
KeysPart (at_root r a) (at_root q b) = r ≡ q → Differ a b

-- where so many cells come first that wait
abbrev pub HasKey : (level own : ℕ) {os : List Owner} {world : World} {o : Owner} → Key → Chain os world o → Type 0
HasKey level own (at_node n) chain = (chain.from.at.base ≡ Waiting level n) × (number chain.at < own)
HasKey level own (at_root r steps) chain = (number chain.at ≡ own + r) × Goes steps chain.path

pub record Target (level own : ℕ) (os : List Owner) (world : World) : Type 0 where
  pub key : Key
  pub owner : Owner
  pub chain : Chain os world owner
  pub has : HasKey level own key chain

keys_part : (level own : ℕ) {os : List Owner} {world : World} {o p : Owner} (k l : Key) (b : Chain os world o) (c : Chain os world p) →
    HasKey level own k b → HasKey level own l c → KeysPart k l → ChainsPart b c
keys_part level own (at_node m) (at_node n) b c h g apart e =
    absurd (apart (ap waiting_node (sym h.0 ∙ (ap (λ (o : Owner). o.at.base) (same_owner b.at c.at e) ∙ g.0))))
keys_part level own (at_node m) (at_root q t) b c h g apart e = absurd (omega (arith, h.1, g.0, e))
keys_part level own (at_root r s) (at_node n) b c h g apart e = absurd (omega (arith, h.0, g.1, e))
keys_part level own (at_root r s) (at_root q t) b c h g apart e = differ_part (apart (omega (arith, h.0, g.0, e))) h.1 g.1

pub less_rest : (j n : ℕ) → suc j < suc n → j < n
less_rest j n less = omega (arith, less)

module _ {level own : ℕ} {os : List Owner} {world : World} where
  abbrev pub AllKeys : (Key → Type 0) → List (Target level own os world) → Type 0
  AllKeys P [] = Unit {0}
  AllKeys P (t ∷ ts) = P t.key × AllKeys P ts

  abbrev pub AllKeysPart : List (Target level own os world) → Type 0
  AllKeysPart [] = Unit {0}
  AllKeysPart (t ∷ ts) = AllKeys (λ k. KeysPart t.key k) ts × AllKeysPart ts

  -- by number
  abbrev pub owner_at : List (Target level own os world) → ℕ → Owner
  owner_at [] n = record { form = plain; at = nowhere }
  owner_at (t ∷ ts) zero = t.owner
  owner_at (t ∷ ts) (suc n) = owner_at ts n

  abbrev pub chain_at : (ts : List (Target level own os world)) → Chains os world (owner_at ts) (length ts)
  chain_at [] j less = absurd (omega (arith, less))
  chain_at (t ∷ ts) zero less = t.chain
  chain_at (t ∷ ts) (suc j) less = chain_at ts j (less_rest j (length ts) less)

  one_parts : (t : Target level own os world) (ts : List (Target level own os world)) → AllKeys (λ k. KeysPart t.key k) ts → (j : ℕ) (less : j < length ts) →
      ChainsPart t.chain (chain_at ts j less)
  one_parts t [] all j less = absurd (omega (arith, less))
  one_parts t (u ∷ ts) all zero less = keys_part level own t.key u.key t.chain u.chain t.has u.has all.0
  one_parts t (u ∷ ts) all (suc j) less = one_parts t ts all.1 j (less_rest j (length ts) less)

  pub chains_part : (ts : List (Target level own os world)) → AllKeysPart ts → AllPart (chain_at ts)
  chains_part [] all j l a b d = absurd (omega (arith, a))
  chains_part (t ∷ ts) all zero zero a b d = absurd (d refl)
  chains_part (t ∷ ts) all zero (suc l) a b d = one_parts t ts all.0 l (less_rest l (length ts) b)
  chains_part (t ∷ ts) all (suc j) zero a b d = λ e. ways_back (one_parts t ts all.0 j (less_rest j (length ts) a) (sym e))
  chains_part (t ∷ ts) all (suc j) (suc l) a b d = chains_part ts all.1 j l (less_rest j (length ts) a) (less_rest l (length ts) b) (λ e. d (ap suc e))

  pub all_both_keys : (P : Key → Type 0) (ts us : List (Target level own os world)) → AllKeys P ts → AllKeys P us → AllKeys P (ts ++ us)
  all_both_keys P [] us a b = b
  all_both_keys P (t ∷ ts) us a b = (a.0, all_both_keys P ts us a.1 b)

  pub part_both : (ts us : List (Target level own os world)) → AllKeysPart ts → AllKeysPart us → AllKeys (λ k. AllKeys (λ l. KeysPart k l) us) ts →
      AllKeysPart (ts ++ us)
  part_both [] us a b across = b
  part_both (t ∷ ts) us a b across = (all_both_keys (λ k. KeysPart t.key k) ts us a.0 across.0, part_both ts us a.1 b across.1)

-- the last one comes first among the cells
pub target_back : (targets : ℕ → Owner) (n j k : ℕ) → n ≡ suc (j + k) → Second (targets_of targets n) (targets j) k
target_back targets zero j k e = absurd (omega (arith, e))
target_back targets (suc n) j zero e =
    let same : n ≡ j = omega (arith, e) in
    subst (λ i. Second (targets n ∷ targets_of targets n) (targets i) 0) same (record { at = first_owner; is = refl })
target_back targets (suc n) j (suc k) e =
    let less : n ≡ suc (j + k) = omega (arith, e) in
    let r = target_back targets n j k less in
    record { at = later_owner r.at; is = ap suc r.is }

-- ---- of the operands

-- behind so many cells that wait
abbrev pub TargetIn : (level : ℕ) (ms os : List Owner) → World → Type 0
TargetIn level ms os world = Target level (length ms) (ms ++ os) world

abbrev pub lent_target : (level : ℕ) (ms os : List Owner) (world : World) (f : Form) (node : ℕ) →
    Among ms (record { form = f; at = at_base (Waiting level node) }) → TargetIn level ms os world
lent_target level ms os world f node a = record {
  key = at_node node;
  owner = record { form = f; at = at_base (Waiting level node) };
  chain = record {
    from = record { form = f; at = at_base (Waiting level node) };
    at = among_first os a;
    path = [];
    way = arrived;
  };
  has = (refl, omega (arith, number_first os a, number_below a));
}

-- a cell or a character at the end of a chain
pub record AtCell (os : List Owner) (world : World) (root : ℕ) (steps : List Step) (f : Form) (l : Location) : Type 0 where
  pub chain : Chain os world (record { form = f; at = l })
  pub goes : Goes steps chain.path
  pub is : number chain.at ≡ root

pub at_cell : {os : List Owner} {world : World} {root : ℕ} {steps : List Step} {f : Form} {l : Location} → Found os world true root steps f l →
    AtCell os world root steps f l
at_cell (in_cell c goes) = record { chain = c; goes = goes; is = refl }

abbrev pub place_target : (level : ℕ) (ms os : List Owner) (world : World) (r : ℕ) (steps : List Step) {found_steps : List Step} {f : Form} {l : Location} →
    Found (ms ++ os) world true (length ms + r) found_steps f l → found_steps ≡ steps → TargetIn level ms os world
place_target level ms os world r steps {f = f} {l = l} found same =
    let a = at_cell found in
    record {
      key = at_root r steps;
      owner = record { form = f; at = l };
      chain = a.chain;
      has = (a.is, subst (λ s. Goes s a.chain.path) same a.goes);
    }

module _ {here : Here} {limits : Limits} {root : (global : Bool) → ℕ → ℕ} {uses : (position : ℕ) → Use} {ms os : List Owner} {blocks : List ℕ}
    {world : World} where
  abbrev pub targets_in : {args : Args} {i : ℕ} {xs : List Operand} {given : List ℕ} (t : Taken here limits root uses ms os blocks world args i xs given) →
      List (TargetIn here.level ms os world)
  targets_in none_taken = []
  targets_in (bare_taken which b more) = targets_in more
  targets_in (held_taken purpose u more apart) = targets_in more
  targets_in (lent_taken {value = value} purpose hooks own a more) =
      lent_target here.level ms os world (form_for here.facts (type_of value)) (node_of value).number a ∷ targets_in more
  targets_in (place_taken {path = path} f e more) =
      place_target here.level ms os world (root_at root path) (path_steps path) f e ∷ targets_in more

  pub all_in : (P : Key → Type 0) {args : Args} {i : ℕ} {xs : List Operand} {given : List ℕ} → ((n : ℕ) → Member n (own_numbers here args) → P (at_node n)) →
      AllPaths (λ path. P (at_root (root_at root path) (path_steps path))) args →
      (t : Taken here limits root uses ms os blocks world args i xs given) → AllKeys P (targets_in t)
  all_in P nodes paths none_taken = tt
  all_in P nodes paths (bare_taken {value = value} {rest = rest} which b more) = all_in P (λ n m. nodes n (own_rest here value rest n m)) paths more
  all_in P nodes paths (held_taken {value = value} {rest = rest} purpose u more apart) =
      all_in P (λ n m. nodes n (own_rest here value rest n m)) paths more
  all_in P nodes paths (lent_taken {value = value} {rest = rest} purpose hooks own a more) =
      (nodes (node_of value).number (own_first here value rest hooks), all_in P (λ n m. nodes n (own_rest here value rest n m)) paths more)
  all_in P nodes paths (place_taken {path = path} f e more) = (paths.0, all_in P nodes paths.1 more)

-- ---- the globals

-- of all places in a list
abbrev pub AllPlaced : (Placed → Type 0) → List Placed → Type 0
AllPlaced P [] = Unit {0}
AllPlaced P (p ∷ ps) = P p × AllPlaced P ps

pub all_placed_so : (P Q : Placed → Type 0) (ps : List Placed) → ((p : Placed) → P p → Q p) → AllPlaced P ps → AllPlaced Q ps
all_placed_so P Q [] h all = tt
all_placed_so P Q (p ∷ ps) h all = (h p all.0, all_placed_so P Q ps h all.1)

-- where the cell of a global is
abbrev pub GlobalAt : Facts → (root : ℕ → ℕ) → List Owner → World → Placed → Type 0
GlobalAt facts root os world p = PlaceOf os world 0 p.number (form_of facts p.of) true (root p.number)

abbrev pub global_target : (level : ℕ) (ms os : List Owner) (world : World) {n : ℕ} {f : Form} {r : ℕ} → PlaceOf os world 0 n f true r →
    TargetIn level ms os world
global_target level ms os world {n} {f} (own_place i) = record {
  key = at_root (number i) [];
  owner = record { form = f; at = at_base (Standing 0 n) };
  chain = record { from = record { form = f; at = at_base (Standing 0 n) }; at = among_second ms i; path = []; way = arrived };
  has = (number_second ms i, goes_nowhere);
}
global_target level ms os world {f = f} (a_name_of {l = l} name i) = record {
  key = at_root (number i) [];
  owner = record { form = f; at = l };
  chain = record { from = record { form = f; at = l }; at = among_second ms i; path = []; way = arrived };
  has = (number_second ms i, goes_nowhere);
}

pub global_key : (P : Key → Type 0) (level : ℕ) (ms os : List Owner) (world : World) {n : ℕ} {f : Form} {r : ℕ} (there : PlaceOf os world 0 n f true r) →
    P (at_root r []) → P (global_target level ms os world there).key
global_key P level ms os world (own_place i) h = h
global_key P level ms os world (a_name_of name i) h = h

module _ (level : ℕ) (facts : Facts) (root : ℕ → ℕ) (ms os : List Owner) (world : World) where
  abbrev Globals : List Placed → Type 0
  Globals ps = AllPlaced (GlobalAt facts root os world) ps

  abbrev pub global_targets : (ps : List Placed) → Globals ps → List (TargetIn level ms os world)
  global_targets [] all = []
  global_targets (p ∷ ps) all = global_target level ms os world all.0 ∷ global_targets ps all.1

  pub all_globals : (P : Key → Type 0) (ps : List Placed) (all : Globals ps) → AllPlaced (λ p. P (at_root (root p.number) [])) ps →
      AllKeys P (global_targets ps all)
  all_globals P [] all h = tt
  all_globals P (p ∷ ps) all h = (global_key P level ms os world all.0 h.0, all_globals P ps all.1 h.1)

  pub count_globals : (ps : List Placed) (all : Globals ps) → length (global_targets ps all) ≡ length ps
  count_globals [] all = refl
  count_globals (p ∷ ps) all = ap suc (count_globals ps all.1)
