use Rattle.std.proofs.Common.{◌≡◌, ℕ, ◌+◌, ◌-◌, ◌≤◌, List, get_or, refl, sym, ap, ◌∙◌, arith, rules}
use Rattle.tables.specs.Curves.{Graph, repeated}
use Rattle.tables.proofs.Curves.{graph_same}
use Rattle.tables.proofs.Fills.{filled_more, filled_front, laid_out}
use Rattle.tables.proofs.Tables.{repeated_later, repeated_le, repeated_within}
use Rattle.tables.proofs.table.Table.of.Goals as goal

-- each curve that fills the array may fill a table, where one may
graph_too : {n : ℕ} {f h : ℕ → ℕ} (xs : List ℕ) → ((k : ℕ) → k ≤ n → get_or xs k 0 ≡ f k) → ((k : ℕ) → k ≤ n → get_or xs k 0 ≡ h k) → Graph n h → Graph n f
graph_too xs is was graph = graph_same (λ k l. sym (is k l) ∙ was k l) graph

pub loop-k-init : goal.loop-k-init
loop-k-init g c = λ f gives.
    let (h, graph, gave) = c.requires.graph in
    let is = c.front-entries.ensures f gives in
    filled_front (graph_too _ is (c.front-entries.ensures h gave) graph) (search rules) is

pub overflow_add-entries : goal.overflow_add-entries
overflow_add-entries g c =
    let (f, graph, gives) = c.requires.graph in
    let filled = c.loop-k.invariant f gives in
    let j = c.loop-k.k - c.args.frame in
    omega (arith, filled.each j (omega arith), filled.each c.args.frame (omega arith), repeated_le graph j, repeated_le graph c.args.frame)

pub loop-k-preserved : goal.loop-k-preserved
loop-k-preserved g c = λ f gives.
    let (h, graph, gave) = c.requires.graph in
    let now = graph_too _ (c.front-entries.ensures f gives) (c.front-entries.ensures h gave) graph in
    let filled = c.loop-k.invariant f gives in
    let n = c.args.frame in
    let j = c.loop-k.k - n in
    let whole : c.loop-k.k ≡ j + n = omega arith in
    filled_more filled (omega arith)
    (omega (arith, filled.each j (omega arith), filled.each n (omega arith), repeated_later n f now.some j, ap (repeated n f) whole, repeated_within n f now.some now.starts n (omega arith)))

pub invariant_of-result : goal.invariant_of-result
invariant_of-result g c =
    let (f, graph, gives) = c.requires.graph in
    laid_out graph (c.loop-k.invariant f gives) (omega arith)

pub returns : goal.returns
returns g c = λ f gives.
    let (h, graph, gave) = c.requires.graph in
    let now = graph_too _ (c.front-entries.ensures f gives) (c.front-entries.ensures h gave) graph in
    record { frame = refl; each = λ k l. (c.loop-k.invariant f gives).each k (omega arith) ∙ repeated_within _ _ now.some now.starts k l }
