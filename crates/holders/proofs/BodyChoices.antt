-- A `case` of statements: its selector waits while a block runs.
use Rattle.std.proofs.Common.{◌≡◌, sym, subst, ℕ, Bool, true, false, List, [], ◌++◌, Option}
use Rattle.nim_types.specs.Types.{Ty}
use Rattle.nim_program.specs.declared.operation.Use.TheVariants.{Looked}
use Rattle.nim_program.specs.Program.{Expr, Path, Args, ByPath, Declared, type_of, type_at}
use Rattle.nim_program.specs.Folds.{lists, node_numbers, total, total_at}
use Rattle.nim_program.specs.Numbering.{numbers_of}
use Rattle.nim_program.specs.Scopes as scopes
use Rattle.nim_program.specs.Typed.{is_typed, is_typed_path}
use Rattle.nim_meaning.specs.Values.{Value}
use Rattle.nim_meaning.specs.Marks.{Member}
use Rattle.nim_meaning.specs.State.{World, State}
use Rattle.nim_meaning.specs.Acts.{Does, ◌>>=◌}
use Rattle.nim_meaning.specs.Here.{Here}
use Rattle.nim_meaning.specs.Waiting.{Wait, waiting, waiting_at, nodes_of}
use Rattle.nim_meaning.specs.Steps.{grouped, selecting}
use Rattle.nim_meaning.specs.Meaning.{eval, selector_of}
use Rattle.holders.specs.Sure.{Comes}
use Rattle.holders.specs.Territory.{Owner}
use Rattle.holders.specs.Staging.{Stage}
use Rattle.holders.specs.Called.{LeftBy}
use Rattle.holders.specs.Asked.{Limits, Asked, AskedAt, FactsOfTheirSort}
use Rattle.holders.specs.Evaluating.{value_nodes, path_nodes, at_nodes}
use Rattle.holders.specs.Claimed.{NoExit, HasValue, known_at}
use Rattle.holders.specs.BodyParts.{part_region, PartBegins, Sights, Pending, PartSo}
use Rattle.holders.specs.Numbered.{Numbered}
use Rattle.holders.proofs.Owning.{in_first, in_second}
use Rattle.holders.proofs.Coming.{comes_then, comes_weaker}
use Rattle.holders.proofs.PartsInTurn.{waiting_in, path_in}
use Rattle.holders.proofs.Cases.{Selector, selecting_comes, value_selector, path_selector}
use Rattle.holders.proofs.WholeExpressions.{CallsSo}
use Rattle.holders.proofs.NodesRise.{value_distinct, value_members, path_distinct, path_members, rise_first}
use Rattle.holders.proofs.BodyParts.{value_begins}
use Rattle.holders.proofs.BodyValues.{group_so}
use Rattle.holders.proofs.BodyHeads.{Headed, behind_head}
use Rattle.holders.proofs.BodyNumbers.{numbers_second, rise_apart}
use Rattle.holders.proofs.BodyStatements.{value_at, path_at}

module _ (here : Here) (first places : ℕ) (sorted : FactsOfTheirSort here.facts) (OfCall : Limits → ℕ → Args → Type 0) (Known : scopes.Here → Type 0)
    (calls : (scope : scopes.Here) → Known scope → (limits : Limits) (root : (global : Bool) → ℕ → ℕ) (os : List Owner) →
    CallsSo here scope limits root first places os (OfCall limits)) where
  abbrev known : scopes.Here → scopes.Here
  known scope = known_at here scope

  abbrev Part : {A : Type 0} → scopes.Here → Limits → (ps ns : List ℕ) → Does A → Type 0
  Part scope limits ps ns act = PartSo here first places (known scope) limits ps ns act

  module _ (scope : scopes.Here) (ok : Known scope) (limits : Limits) (node : ℕ) (hs hn : List ℕ) (in_head : (n : ℕ) → Member n hs → Member n hn)
      (ws : List Wait) (inside : (n : ℕ) → Member n (nodes_of ws) → Member n hs) (ty : Option Ty) (hd bd : List Declared) (bn : List ℕ)
      (numbers : Numbered here first places (known scope) limits (hd ++ bd) (hn ++ bn)) (go : Value → Does (Unit {0}))
      (go_so : (y : Value) → Part scope limits (numbers_of bd) bn (go y)) where
    abbrev ps : List ℕ
    ps = numbers_of (hd ++ bd)

    abbrev ns : List ℕ
    ns = hn ++ bn

    -- what follows its selector
    selected : {os : List Owner} {nodes : List ℕ} {start : World} (b : PartBegins here.level first places ps ns os nodes start)
        (sights : Sights here (known scope) limits os start) (x : Value) (s : State) →
        Selector here (known scope) limits sights.root first places os ty hs nodes ws b.territory.blocks start x s.world →
        Comes (λ u after. Pending (part_region here.level ps ns) [] os first places nodes ws b.territory.blocks start after)
        (LeftBy (λ after. Pending (part_region here.level ps ns) [] os first places nodes ws b.territory.blocks start after)) (selecting here ty x go s)
    selected {os} {nodes} {start} b sights x s h =
        let W : World → Type 0 = λ after. Pending (part_region here.level ps ns) [] os first places nodes ws b.territory.blocks start after in
        selecting_comes here (known scope) limits sights.root first places os ty x go (λ u after. W after) (LeftBy W) s h.whole
        (λ y now e. behind_head here first places (known scope) limits ps ns (go y) (go_so y) now
        (headed now.world (subst (λ w. Stage (at_nodes here.level hs) h.own os first places h.later b.territory.blocks start w) (sym e) h.stage)))
      where
        headed : (now : World) → Stage (at_nodes here.level hs) h.own os first places h.later b.territory.blocks start now →
            Headed here first places (known scope) limits ps ns hs (numbers_of bd) bn ws os nodes start now
        headed now st = record {
          before = b;
          sights = sights;
          of_head = λ n m. in_first n hn bn (in_head n m);
          of_places = λ n m. numbers_second n hd bd m;
          of_nodes = λ n m. in_second n hn bn m;
          apart = λ n m q. rise_apart numbers.from_node hn bn numbers.nodes n (in_head n m) q;
          inside = inside;
          own = h.own;
          later = h.later;
          leaves = h.leaves;
          stage = st;
        }

    pub selected_so : (select : Does Value) →
        ((os : List Owner) (nodes : List ℕ) (s : State) (b : PartBegins here.level first places ps ns os nodes s.world)
        (sights : Sights here (known scope) limits os s.world) →
        Comes (Selector here (known scope) limits sights.root first places os ty hs nodes ws b.territory.blocks s.world) NoExit (select s)) →
        Part scope limits ps ns (grouped here node ws (select >>= (λ x. selecting here ty x go)))
    selected_so select select_so os nodes s b sights =
        let W : World → Type 0 = λ after. Pending (part_region here.level ps ns) [] os first places nodes ws b.territory.blocks s.world after in
        let S : Value → World → Type 0 = Selector here (known scope) limits sights.root first places os ty hs nodes ws b.territory.blocks s.world in
        group_so here first places ps ns os nodes b.territory.blocks s.world node [] [] ws (select >>= (λ x. selecting here ty x go))
        (λ n m. in_first n hn bn (in_head n (inside n m))) s
        (comes_then select (λ x. selecting here ty x go) S (λ u after. W after) (LeftBy W) _
        (comes_weaker S NoExit S (LeftBy W) (select _) (select_so os nodes _ b sights) (λ x now h. h) (λ way now q. absurd q))
        (λ x mid h. selected b sights x mid h))

  -- a selector that is a value
  pub by_value_so : (scope : scopes.Here) → Known scope → (limits : Limits) (node : ℕ) (e : Expr) → is_typed (known scope) e ≡ true →
      Asked here.facts limits (OfCall limits) e → (hd bd : List Declared) (bn : List ℕ) →
      Numbered here first places (known scope) limits (hd ++ bd) (total lists node_numbers e ++ bn) → (go : Value → Does (Unit {0})) →
      ((y : Value) → Part scope limits (numbers_of bd) bn (go y)) →
      Part scope limits (numbers_of (hd ++ bd)) (total lists node_numbers e ++ bn)
      (grouped here node (waiting here.facts here.modes e Looked) (eval e Looked here >>= (λ x. selecting here (type_of e) x go)))
  by_value_so scope ok limits node e typed asked hd bd bn numbers go go_so =
      let hn = total lists node_numbers e in
      let d = value_distinct (known scope) numbers.from_node e typed (rise_first numbers.from_node hn bn numbers.nodes) in
      selected_so scope ok limits node (value_nodes e) hn (λ n m. value_members (known scope) e typed n m) (waiting here.facts here.modes e Looked)
      (λ n m. waiting_in here.facts here.modes e Looked n m) (type_of e) hd bd bn numbers go go_so (eval e Looked here)
      (λ os nodes s b sights.
      comes_weaker (HasValue here first places os e Looked nodes b.territory.blocks s.world) NoExit
      (Selector here (known scope) limits sights.root first places os (type_of e) (value_nodes e) nodes (waiting here.facts here.modes e Looked)
      b.territory.blocks s.world) NoExit (eval e Looked here s)
      (value_at here first places sorted OfCall Known calls scope ok limits sights.root os e typed asked d Looked nodes s
      (value_begins (numbers_of (hd ++ bd)) (hn ++ bn) (value_nodes e) b (λ n m. in_first n hn bn (value_members (known scope) e typed n m))) sights.scene)
      (λ x now h. value_selector here (known scope) limits sights.root first places os e d h) (λ way now q. q))

  -- one that stands at a path
  pub by_path_so : (scope : scopes.Here) → Known scope → (limits : Limits) (node : ℕ) (path : Path) → is_typed_path (known scope) path ≡ true →
      AskedAt here.facts limits (OfCall limits) path → (hd bd : List Declared) (bn : List ℕ) →
      Numbered here first places (known scope) limits (hd ++ bd) (total_at lists node_numbers false path ++ bn) → (go : Value → Does (Unit {0})) →
      ((y : Value) → Part scope limits (numbers_of bd) bn (go y)) → (rest : Args) →
      Part scope limits (numbers_of (hd ++ bd)) (total_at lists node_numbers false path ++ bn)
      (grouped here node (waiting_at here.facts here.modes path) (selector_of (ByPath path rest) here >>= (λ x. selecting here (type_at path) x go)))
  by_path_so scope ok limits node path typed asked hd bd bn numbers go go_so rest =
      let hn = total_at lists node_numbers false path in
      let d = path_distinct (known scope) numbers.from_node path typed (rise_first numbers.from_node hn bn numbers.nodes) in
      selected_so scope ok limits node (path_nodes path) hn (λ n m. path_members (known scope) path typed n m) (waiting_at here.facts here.modes path)
      (λ n m. path_in here.facts here.modes path n m) (type_at path) hd bd bn numbers go go_so (selector_of (ByPath path rest) here)
      (λ os nodes s b sights.
      path_selector here (known scope) limits sights.root first places os path
      (path_at here first places sorted OfCall Known calls scope ok limits sights.root os path typed asked d) nodes s
      (value_begins (numbers_of (hd ++ bd)) (hn ++ bn) (path_nodes path) b (λ n m. in_first n hn bn (path_members (known scope) path typed n m))) sights.scene)
