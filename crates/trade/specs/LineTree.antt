-- The lines of a tree, in order.
use Rattle.std.specs.Prelude.{List, [], ◌∷◌, ◌++◌, Option, Some, None}
use Rattle.trade.specs.Lines.{Line}
use Rattle.trade.specs.declared.line_tree.Tree.{Tree}
use Rattle.trade.specs.declared.line_tree.Tree.TheVariants.{Leaf, Node'}
use Rattle.trade.specs.declared.order_lines.Lines.TheInside.{Inside}

-- those before a line, the line, and those behind it
abbrev pub items : Tree → List Line
items Leaf = []
items (Node' p l x h s r) = items l ++ x.value ∷ items r

-- those of a root, if there is one
abbrev pub items_of : {R : Type 0} → Option R → (R → List Line) → List Line
items_of None of_root = []
items_of (Some r) of_root = of_root r

-- the lines of a root
abbrev pub lines_in : Inside → List Line
lines_in a = items_of a.root (λ r. items r.value)
