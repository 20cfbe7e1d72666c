-- Nodes of types that are written in a section: what was there stays behind further ones.
use Rattle.std.proofs.Common.{◌≡◌, ℕ, suc, subst, ◌+◌, ◌≤◌, ◌<◌, List, [], ◌∷◌, ◌++◌, length, drop, refl, sym, ap, ap₂}
use Rattle.std.proofs.Common.{◌∙◌, length-append, append-nil, append_assoc, arith}
use Rattle.std.specs.Prelude.{map, Result, Ok, Err, OnOk, IfOk, IfErr}
use Rattle.arc_base.specs.declared.place.Stop.{Stop}
use Rattle.arc_base.specs.declared.place.Stop.TheVariants as stop
use Rattle.arc_base.specs.Refusal.{and_then, Answers}
use Rattle.arc_base.proofs.ForCallers.{answers_as, forgets, stops}
use Rattle.nim_types.specs.declared.types.TypeDef.{TypeDef}
use Rattle.nim_types.specs.Types.{Ty, Key, Facts}
use Rattle.nim_types.specs.Table.{type_at, AllBelow}
use Rattle.nim_types.proofs.ForCallers.{front}
use Rattle.expr_rules.specs.Env.{Env}
use Rattle.expr_rules.specs.Answers.{Answer}
use Rattle.expr_parts.specs.declared.scope.Scope.{Scope}
use Rattle.expr_parts.specs.View.{Under, Grown, env_of}
use Rattle.expr_parts.proofs.ForCallers.{grown_on}
use Rattle.decl_rules.specs.Written.{Spelled, spelled_as, Formed, Sizing, later}
use Rattle.decl_types.specs.declared.nodes.Node.{Node}
use Rattle.decl_types.specs.declared.nodes.Names.{Names}
use Rattle.decl_types.specs.ViewNodes.{node_type, nodes_onto, node_types, node_formed, formed_onto}
use Rattle.decl_types.specs.ViewKnown.{Ordered, MadeBelow, NodeIn, NodesIn}
use Rattle.decl_sections.specs.ViewSpelled.{formed_since, Further, Outer, Adds, Spells}
use Rattle.decl_types.specs.ViewNodes.{names_env_of}
use Rattle.decl_sections.specs.ViewSpelled.{one_in, IsNode}

-- ---- types

type_last : (ts : List Ty) (t : Ty) → type_at (ts ++ t ∷ []) (length ts) ≡ t
type_last [] t = refl
type_last (u ∷ ts) t = type_last ts t

onto_more : (ts : List Ty) (keys : List Key) (done : List Ty) (a b : List Node)
    → nodes_onto ts keys done (a ++ b) ≡ nodes_onto ts keys (nodes_onto ts keys done a) b
onto_more ts keys done [] b = refl
onto_more ts keys done (node ∷ a) b = onto_more ts keys (done ++ node_type ts keys done node ∷ []) a b

onto_keeps : (ts : List Ty) (keys : List Key) (done : List Ty) (nodes : List Node) → (more : List Ty) × (nodes_onto ts keys done nodes ≡ done ++ more)
onto_keeps ts keys done [] = ([], sym (append-nil done))
onto_keeps ts keys done (node ∷ nodes) =
    let t = node_type ts keys done node in
    let r = onto_keeps ts keys (done ++ t ∷ []) nodes in
    (t ∷ r.0, r.1 ∙ append_assoc done (t ∷ []) r.0)

onto_count : (ts : List Ty) (keys : List Key) (done : List Ty) (nodes : List Node) → length (nodes_onto ts keys done nodes) ≡ length done + length nodes
onto_count ts keys done [] = omega arith
onto_count ts keys done (node ∷ nodes) =
    let t = node_type ts keys done node in
    let r = onto_count ts keys (done ++ t ∷ []) nodes in
    let s = length-append done (t ∷ []) in
    omega (arith, r, s)

pub count : (ts : List Ty) (keys : List Key) (nodes : List Node) → length (node_types ts keys nodes) ≡ length nodes
count ts keys nodes = let e = onto_count ts keys [] nodes in omega (arith, e)

-- a type that was there
pub still : (ts : List Ty) (keys : List Key) (old new : List Node) (i : ℕ) → Further old new → i < length old
    → type_at (node_types ts keys new) i ≡ type_at (node_types ts keys old) i
still ts keys old new i w h =
    let done = node_types ts keys old in
    let k = onto_keeps ts keys done w.0 in
    let n = count ts keys old in
    ap (λ z. type_at z i) (ap (node_types ts keys) w.1 ∙ onto_more ts keys [] old w.0 ∙ k.1) ∙ front done k.0 i (omega (arith, n, h))

pub all_still : (ts : List Ty) (keys : List Key) (old new : List Node) (is : List ℕ) → Further old new → AllBelow (length old) is
    → map (type_at (node_types ts keys new)) is ≡ map (type_at (node_types ts keys old)) is
all_still ts keys old new [] w h = refl
all_still ts keys old new (i ∷ is) w h = ap₂ (λ t us. t ∷ us) (still ts keys old new i w h.0) (all_still ts keys old new is w h.1)

-- ---- what is added

drop_front : {X : Type 0} (xs ys : List X) → drop (length xs) (xs ++ ys) ≡ ys
drop_front [] ys = refl
drop_front (x ∷ xs) ys = drop_front xs ys

abbrev pub further_same : (nodes : List Node) → Further nodes nodes
further_same nodes = ([], sym (append-nil nodes), λ h. h)

abbrev pub further_on : (old mid new : List Node) → Further old mid → Further mid new → Further old new
further_on old mid new a b = (a.0 ++ b.0, b.1 ∙ ap (λ z. z ++ b.0) a.1 ∙ append_assoc old a.0 b.0, λ h. b.2 (a.2 h))

pub further_count : (old new : List Node) → Further old new → length old ≤ length new
further_count old new w = let e = ap length w.1 in omega (arith, e, length-append old w.0)

added : (old new : List Node) (w : Further old new) → drop (length old) new ≡ w.0
added old new w = ap (drop (length old)) w.1 ∙ drop_front old w.0

formed_more : (ts : List Ty) (keys : List Key) (done : List Ty) (a b : List Node)
    → formed_onto ts keys done (a ++ b) ≡ formed_onto ts keys done a ++ formed_onto ts keys (nodes_onto ts keys done a) b
formed_more ts keys done [] b = refl
formed_more ts keys done (node ∷ a) b =
    let t = node_type ts keys done node in
    ap (λ all. node_formed node t ++ all) (formed_more ts keys (done ++ t ∷ []) a b)
    ∙ sym (append_assoc (node_formed node t) (formed_onto ts keys (done ++ t ∷ []) a)
    (formed_onto ts keys (nodes_onto ts keys (done ++ t ∷ []) a) b))

pub formed_none : (ts : List Ty) (keys : List Key) (nodes : List Node) → formed_since ts keys nodes nodes ≡ []
formed_none ts keys nodes = ap (formed_onto ts keys (node_types ts keys nodes)) (added nodes nodes (further_same nodes))

-- in two steps
pub formed_two : (ts : List Ty) (keys : List Key) (old mid new : List Node) → Further old mid → Further mid new
    → formed_since ts keys old new ≡ formed_since ts keys old mid ++ formed_since ts keys mid new
formed_two ts keys old mid new a b =
    let done = node_types ts keys old in
    ap (formed_onto ts keys done) (added old new (further_on old mid new a b))
    ∙ formed_more ts keys done a.0 b.0
    ∙ ap₂ (λ xs ys. xs ++ ys) (ap (formed_onto ts keys done) (sym (added old mid a)))
    (ap₂ (formed_onto ts keys) (sym (ap (node_types ts keys) a.1 ∙ onto_more ts keys [] old a.0)) (sym (added mid new b)))

-- ---- one node more

node_formed_one : (ts : List Ty) (keys : List Key) (old : List Node) (node : Node)
    → formed_since ts keys old (old ++ node ∷ []) ≡ node_formed node (node_type ts keys (node_types ts keys old) node)
node_formed_one ts keys old node =
    ap (formed_onto ts keys (node_types ts keys old)) (drop_front old (node ∷ []))
    ∙ append-nil (node_formed node (node_type ts keys (node_types ts keys old) node))

-- the type of the last one
last_type : (ts : List Ty) (keys : List Key) (old : List Node) (node : Node)
    → type_at (node_types ts keys (old ++ node ∷ [])) (length old) ≡ node_type ts keys (node_types ts keys old) node
last_type ts keys old node =
    ap₂ type_at (onto_more ts keys [] old (node ∷ [])) (sym (count ts keys old))
    ∙ type_last (node_types ts keys old) (node_type ts keys (node_types ts keys old) node)

ordered_from : (i n : ℕ) (nodes : List Node) (node : Node) → n ≡ i + length nodes → Ordered i nodes → MadeBelow n node → Ordered i (nodes ++ node ∷ [])
ordered_from i n [] node e h made = let k : n ≡ i = omega (arith, e) in (subst (λ j. MadeBelow j node) k made, tt)
ordered_from i n (x ∷ nodes) node e h made = (h.0, ordered_from (suc i) n nodes node (omega (arith, e)) h.1 made)

ordered_more : (old new : List Node) (node : Node) → new ≡ old ++ node ∷ [] → MadeBelow (length old) node → Ordered 0 old → Ordered 0 new
ordered_more old new node e made h = subst (Ordered 0) (sym e) (ordered_from 0 (length old) old node (omega arith) h made)

nodes_last : (n m : ℕ) (nodes : List Node) (node : Node) → NodesIn n m nodes → NodeIn n m node → NodesIn n m (nodes ++ node ∷ [])
nodes_last n m [] node h i = (i, tt)
nodes_last n m (x ∷ nodes) node h i = (h.0, nodes_last n m nodes node h.1 i)

-- what a node means
abbrev pub Means : List Node → Scope → Names → (Env → List Ty → Answer Ty) → Node → Type 0
Means old scope names rule node =
    (ts : List Ty) (before : Facts) (keys : List Key)
    → rule (names_env_of ts before keys names scope) (node_types ts keys old) ≡ Ok (node_type ts keys (node_types ts keys old) node)

pub adds : (old new : List Node) (node : Node) (scope : Scope) (names : Names) (rule : Env → List Ty → Answer Ty) (formed : Ty → List Formed)
    (r : Result ℕ Stop) → OnOk r (new ≡ old ++ node ∷ []) → IfOk r (λ i. i ≡ length old) → IfErr r (λ s. s ≡ stop.Memory)
    → Means old scope names rule node → ((ty : Ty) → node_formed node ty ≡ formed ty) → MadeBelow (length old) node
    → ((n m : ℕ) → Outer n m names scope.decls → NodeIn n m node) → Adds old new scope names rule formed r
adds old new node scope names rule formed (Ok i) e n m means f made sound = record {
  further = (node ∷ [], e, ordered_more old new node e made);
  since = λ ts keys.
      ap (formed_since ts keys old) e ∙ node_formed_one ts keys old node ∙ f (node_type ts keys (node_types ts keys old) node)
      ∙ ap formed (sym (ap₂ (λ z k. type_at (node_types ts keys z) k) e n ∙ last_type ts keys old node));
  answers = λ ts before keys.
      means ts before keys ∙ ap Ok (sym (ap₂ (λ z k. type_at (node_types ts keys z) k) e n ∙ last_type ts keys old node));
  within = let l = ap length e in omega (arith, n, l, length-append old (node ∷ []));
  sound = λ a b o h. subst (NodesIn a b) (sym e) (nodes_last a b old node h (sound a b o));
}
adds old new node scope names rule formed (Err s) e n m means f made sound = record {
  further = tt;
  since = tt;
  answers = λ ts before keys.
      forgets (type_at (node_types ts keys new)) (rule (names_env_of ts before keys names scope) (node_types ts keys old)) s m;
  within = tt;
  sound = λ n m o h. tt;
}

-- what stops before a node is added
pub adds_stops : (old new : List Node) (scope : Scope) (names : Names) (rule : Env → List Ty → Answer Ty) (formed : Ty → List Formed) (s : Stop)
    → ((ts : List Ty) (before : Facts) (keys : List Key) (done : List Ty)
    → Answers (type_at done) (rule (names_env_of ts before keys names scope) (node_types ts keys old)) (Err s))
    → Adds old new scope names rule formed (Err s)
adds_stops old new scope names rule formed s h = record {
  further = tt;
  since = tt;
  answers = λ ts before keys. h ts before keys (node_types ts keys new);
  within = tt;
  sound = λ n m o h. tt;
}

-- ---- productions

further_both : (old mid new : List Node) (r : Result ℕ Stop) → Further old mid → OnOk r (Further mid new) → OnOk r (Further old new)
further_both old mid new (Ok i) a b = further_on old mid new a b
further_both old mid new (Err s) a b = tt

-- what follows of parts by names alone
abbrev pub Follows : {A T : Type 0} → (List Ty → List Formed → T → A) → (Sizing → Env → Answer A) → T → (Env → List Ty → Answer Ty)
    → (Ty → List Formed) → (Sizing → Env → Answer Spelled) → Type 0
Follows of rule x add formed whole =
    (known env : Env) (done : List Ty) (fs : List Formed) → rule (later known) env ≡ Ok (of done fs x)
    → whole (later known) env ≡ and_then (add env done) (λ ty. Ok (spelled_as ty (fs ++ formed ty)))

one_answer : (ts : List Ty) (keys : List Key) (mid new : List Node) (fs : List Formed) (formed : Ty → List Formed) (said : Answer Ty)
    (r : Result ℕ Stop) → Answers (type_at (node_types ts keys new)) said r
    → IfOk r (λ i. formed_since ts keys mid new ≡ formed (type_at (node_types ts keys new) i))
    → Answers (one_in (node_types ts keys new) (fs ++ formed_since ts keys mid new)) (and_then said (λ ty. Ok (spelled_as ty (fs ++ formed ty)))) r
one_answer ts keys mid new fs formed said (Ok i) a f =
    ap (λ z. and_then z (λ ty. Ok (spelled_as ty (fs ++ formed ty)))) a
    ∙ ap (λ gs. Ok (spelled_as (type_at (node_types ts keys new) i) (fs ++ gs))) (sym f)
one_answer ts keys mid new fs formed said (Err s) a f =
    stops (one_in (node_types ts keys new) (fs ++ formed_since ts keys mid new)) (type_at (node_types ts keys new)) said
    (λ ty. Ok (spelled_as ty (fs ++ formed ty))) s a

at_each : (mid new : List Node) (formed : Ty → List Formed) (ts : List Ty) (keys : List Key) (r : Result ℕ Stop)
    → IfOk r (λ i. (ts : List Ty) (keys : List Key) → formed_since ts keys mid new ≡ formed (type_at (node_types ts keys new) i))
    → IfOk r (λ i. formed_since ts keys mid new ≡ formed (type_at (node_types ts keys new) i))
at_each mid new formed ts keys (Ok i) f = f ts keys
at_each mid new formed ts keys (Err s) f = tt

formed_both : (ts : List Ty) (keys : List Key) (old mid new : List Node) (said : Answer Spelled) (r : Result ℕ Stop) → Further old mid
    → OnOk r (Further mid new)
    → Answers (one_in (node_types ts keys new) (formed_since ts keys old mid ++ formed_since ts keys mid new)) said r
    → Answers (one_in (node_types ts keys new) (formed_since ts keys old new)) said r
formed_both ts keys old mid new said (Ok i) a b h =
    h ∙ ap (λ fs. Ok (spelled_as (type_at (node_types ts keys new) i) fs)) (sym (formed_two ts keys old mid new a b))
formed_both ts keys old mid new said (Err (stop.Refused code at)) a b h = h
formed_both ts keys old mid new said (Err stop.Memory) a b h = tt

pub then_adds : {A T : Type 0} {ds es : List TypeDef} {old mid : List Node} {scope : Scope} {names : Names} {of : List Ty → List Formed → T → A}
    {rule : Sizing → Env → Answer A} {Within : ℕ → T → Type 0} (x : T) (new : List Node) (add : Env → List Ty → Answer Ty)
    (formed : Ty → List Formed) (whole : Sizing → Env → Answer Spelled) (r : Result ℕ Stop)
    → Spells ds es old mid scope names of rule Within (Ok x) → Adds mid new scope names add formed r → Follows of rule x add formed whole
    → Spells ds es old new scope names one_in whole IsNode r
then_adds {A} {T} {ds} {es} {old} {mid} {scope} {names} {of} {rule} {Within} x new add formed whole r s a link = record {
  grown = s.grown;
  further = further_both old mid new r s.further a.further;
  answers = λ ts facts before keys u.
      let known = env_of ts facts scope in
      let env = names_env_of ts before keys names scope in
      let done = node_types ts keys mid in
      let fs = formed_since ts keys old mid in
      answers_as (one_in (node_types ts keys new) (formed_since ts keys old new)) (whole (later known) env)
      (and_then (add env done) (λ ty. Ok (spelled_as ty (fs ++ formed ty)))) r
      (link known env done fs (s.answers ts facts before keys u))
      (formed_both ts keys old mid new (and_then (add env done) (λ ty. Ok (spelled_as ty (fs ++ formed ty)))) r s.further a.further
      (one_answer ts keys mid new fs formed (add env done) r (a.answers ts before keys) (at_each mid new formed ts keys r a.since)));
  within = a.within;
  sound = λ n m o h. a.sound n m o (s.sound n m o h);
}

-- a part that stops, stops the whole
abbrev pub StopsWhole : {A B : Type 0} → (Sizing → Env → Answer A) → (Sizing → Env → A → Answer B) → (Sizing → Env → Answer B) → Type 0
StopsWhole rule go whole = (known env : Env) → whole (later known) env ≡ and_then (rule (later known) env) (go (later known) env)

pub spells_stops : {A B S T : Type 0} {ds es : List TypeDef} {old mid : List Node} {scope : Scope} {names : Names} {of : List Ty → List Formed → S → A}
    {rule : Sizing → Env → Answer A} {Within : ℕ → S → Type 0} (new : List Node) (to : List Ty → List Formed → T → B)
    (go : Sizing → Env → A → Answer B) (whole : Sizing → Env → Answer B) (Inside : ℕ → T → Type 0) (s : Stop)
    → Spells ds es old mid scope names of rule Within (Err s) → StopsWhole rule go whole
    → Spells ds es old new scope names to whole Inside (Err s)
spells_stops {A} {B} {S} {T} {ds} {es} {old} {mid} {scope} {names} {of} {rule} {Within} new to go whole Inside s h link = record {
  grown = h.grown;
  further = tt;
  answers = λ ts facts before keys u.
      let known = env_of ts facts scope in
      let env = names_env_of ts before keys names scope in
      answers_as (to (node_types ts keys new) (formed_since ts keys old new)) (whole (later known) env)
      (and_then (rule (later known) env) (go (later known) env)) (Err s) (link known env)
      (stops (to (node_types ts keys new) (formed_since ts keys old new)) (of (node_types ts keys mid) (formed_since ts keys old mid))
      (rule (later known) env) (go (later known) env) s (h.answers ts facts before keys u));
  within = tt;
  sound = λ n m o h. tt;
}

-- the same said in other words
pub spells_as : {A T : Type 0} {ds es : List TypeDef} {old new : List Node} {scope : Scope} {names : Names} {of : List Ty → List Formed → T → A}
    {rule : Sizing → Env → Answer A} {Within : ℕ → T → Type 0} {r : Result T Stop} (whole : Sizing → Env → Answer A)
    → Spells ds es old new scope names of rule Within r
    → ((ts : List Ty) (facts before : Facts) (keys : List Key) → Under es ts facts
    → whole (later (env_of ts facts scope)) (names_env_of ts before keys names scope)
    ≡ rule (later (env_of ts facts scope)) (names_env_of ts before keys names scope))
    → Spells ds es old new scope names of whole Within r
spells_as {A} {T} {ds} {es} {old} {new} {scope} {names} {of} {rule} {Within} {r} whole h link = record {
  grown = h.grown;
  further = h.further;
  answers = λ ts facts before keys u.
      let sizing = later (env_of ts facts scope) in
      let env = names_env_of ts before keys names scope in
      answers_as (of (node_types ts keys new) (formed_since ts keys old new)) (whole sizing env) (rule sizing env) r (link ts facts before keys u)
      (h.answers ts facts before keys u);
  within = h.within;
  sound = h.sound;
}

-- behind what only adds types
pub spells_behind : {A T : Type 0} {ds mid es : List TypeDef} {old new : List Node} {scope : Scope} {names : Names} {of : List Ty → List Formed → T → A}
    {rule : Sizing → Env → Answer A} {Within : ℕ → T → Type 0} {r : Result T Stop} (whole : Sizing → Env → Answer A)
    → Grown ds mid → Spells mid es old new scope names of rule Within r
    → ((ts : List Ty) (facts before : Facts) (keys : List Key) → Under mid ts facts
    → whole (later (env_of ts facts scope)) (names_env_of ts before keys names scope)
    ≡ rule (later (env_of ts facts scope)) (names_env_of ts before keys names scope))
    → Spells ds es old new scope names of whole Within r
spells_behind {A} {T} {ds} {mid} {es} {old} {new} {scope} {names} {of} {rule} {Within} {r} whole g h link = record {
  grown = grown_on g h.grown;
  further = h.further;
  answers = λ ts facts before keys u.
      let sizing = later (env_of ts facts scope) in
      let env = names_env_of ts before keys names scope in
      answers_as (of (node_types ts keys new) (formed_since ts keys old new)) (whole sizing env) (rule sizing env) r
      (link ts facts before keys (h.grown.under ts facts u)) (h.answers ts facts before keys u);
  within = h.within;
  sound = h.sound;
}

-- what is refused, whatever was added
pub spells_err : {A T : Type 0} {ds es : List TypeDef} {old new : List Node} {scope : Scope} {names : Names} (of : List Ty → List Formed → T → A)
    (rule : Sizing → Env → Answer A) (Within : ℕ → T → Type 0) (s : Stop) → Grown ds es
    → ((ts : List Ty) (facts before : Facts) (keys : List Key) → Under es ts facts
    → Answers (of (node_types ts keys new) (formed_since ts keys old new))
    (rule (later (env_of ts facts scope)) (names_env_of ts before keys names scope)) (Err s))
    → Spells ds es old new scope names of rule Within (Err s)
spells_err of rule Within s g h = record { grown = g; further = tt; answers = h; within = tt; sound = λ n m o z. tt }

pub spells_forgets : {A T : Type 0} {ds es : List TypeDef} {old new : List Node} {scope : Scope} {names : Names} (of : List Ty → List Formed → T → A)
    (rule : Sizing → Env → Answer A) (Within : ℕ → T → Type 0) (s : Stop) → Grown ds es → s ≡ stop.Memory
    → Spells ds es old new scope names of rule Within (Err s)
spells_forgets {A} {T} {ds} {es} {old} {new} {scope} {names} of rule Within s g e = record {
  grown = g;
  further = tt;
  answers = λ ts facts before keys u.
      forgets (of (node_types ts keys new) (formed_since ts keys old new))
      (rule (later (env_of ts facts scope)) (names_env_of ts before keys names scope)) s e;
  within = tt;
  sound = λ n m o h. tt;
}

-- what is made of parts alone
pub spells_map : {A B S T : Type 0} {ds es : List TypeDef} {old new : List Node} {scope : Scope} {names : Names} {of : List Ty → List Formed → S → A}
    {rule : Sizing → Env → Answer A} {Within : ℕ → S → Type 0} (x : S) (to : List Ty → List Formed → T → B)
    (whole : Sizing → Env → Answer B) (Inside : ℕ → T → Type 0) (y : T)
    → Spells ds es old new scope names of rule Within (Ok x)
    → ((known env : Env) (done : List Ty) (fs : List Formed) → rule (later known) env ≡ Ok (of done fs x) → whole (later known) env ≡ Ok
    (to done fs y))
    → ((n : ℕ) → Within n x → Inside n y)
    → Spells ds es old new scope names to whole Inside (Ok y)
spells_map {A} {B} {S} {T} {ds} {es} {old} {new} {scope} {names} {of} {rule} {Within} x to whole Inside y h link inside = record {
  grown = h.grown;
  further = h.further;
  answers = λ ts facts before keys u.
      link (env_of ts facts scope) (names_env_of ts before keys names scope) (node_types ts keys new) (formed_since ts keys old new)
      (h.answers ts facts before keys u);
  within = inside (length new) h.within;
  sound = λ n m o z. h.sound n m o z;
}
