-- How often each node is used, in a record with the bytes b whose nodes start at word `at`: what 6 says. It is asked only where nothing is 5.
use Rattle.std.specs.Prelude.{ℕ, zero, suc, ◌+◌, List, true, false, eqb}
use Rattle.std.specs.Prelude.{Option, Some, None}
use Rattle.source.specs.declared.Node.{Node}
use Rattle.source.specs.declared.Chain.{Chain}
use Rattle.source.specs.Children.{Child, Children}
use Rattle.marks.specs.Indices.{total, pick, same}
use Rattle.source.specs.Layout.{definition_entry, expression_root}
use Rattle.source.specs.Nodes.{entry_of, children_of}
use Rattle.records.specs.SourceRecord.{NO-LINK}

-- by a link's arm result
unfoldable pub result_uses : Chain → ℕ → ℕ → ℕ
result_uses Chain.Parameters x k = 0
result_uses Chain.Arms x k = same x k
result_uses Chain.Items x k = 0

-- by a link, where `rest` says how often the chain from a link on uses node k: its item, its arm result, the next link and what follows
unfoldable pub link_uses : Chain → (ℕ → ℕ) → Option Node → ℕ → ℕ
link_uses h rest (Some (Node.Expression f)) k = 0
link_uses h rest (Some (Node.Pattern p)) k = 0
link_uses h rest (Some (Node.Link item next result)) k = same item k + (result_uses h result k + pick (eqb next NO-LINK) 0 (rest next))
link_uses h rest None k = 0

module _ (b : List ℕ) (at : ℕ) where
  -- by whoever names link x, of the links before n: x itself, and what it uses
  unfoldable pub chain_uses : Chain → ℕ → ℕ → ℕ → ℕ
  chain_uses h zero x k = 0
  chain_uses h (suc n) x k = elim (eqb x n) [ true ↦ same n k + link_uses h (λ y. chain_uses h n y k) (entry_of b at n) k | false ↦ chain_uses h n x k ]

  -- by a word of node j
  unfoldable pub child_uses : ℕ → Child → ℕ → ℕ
  child_uses j Child.Nothing k = 0
  child_uses j (Child.Name v) k = 0
  child_uses j (Child.Expression x) k = same x k
  child_uses j (Child.Pattern x) k = same x k
  child_uses j (Child.Links h x) k = chain_uses h j x k
  child_uses j Child.Wrong k = 0

  unfoldable pub children_use : ℕ → Children → ℕ → ℕ
  children_use j c k = child_uses j c.first k + (child_uses j c.second k + child_uses j c.third k)

  -- by the first n nodes, by n definitions and by n expressions from word `list` on
  unfoldable pub by_nodes : ℕ → ℕ → ℕ
  by_nodes n k = total n (λ j. children_use j (children_of (entry_of b at j)) k)

unfoldable pub by_definitions : List ℕ → ℕ → ℕ → ℕ → ℕ
by_definitions b list n k = total n (λ j. same (definition_entry b list j).pattern k + same (definition_entry b list j).value k)

unfoldable pub by_expressions : List ℕ → ℕ → ℕ → ℕ → ℕ
by_expressions b list n k = total n (λ j. same (expression_root b list j) k)
