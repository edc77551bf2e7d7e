-- A window of a body says what the body says, whichever its fields are made into.
use mathlib.Core.Path.{◌≡◌, ap, ◌∙◌}
use mathlib.Core.List.{List}
use Prim.Native.Nat.{ℕ}
use Rattle.format.specs.Layout.{width, fields}
use Rattle.format.specs.Form.{Form}
use Rattle.format.specs.Node.{Node, node}
use Rattle.format.specs.Kind.{Kind, body}
use Rattle.writes.specs.Writes.{windowed, fields_in}

module _ (k : Kind) (bs rs : List ℕ) (w : rs ≡ windowed (width (body k)) bs) where
  pub fields-window : (vs : List ℕ) → vs ≡ fields (body k) rs → vs ≡ fields_in k bs
  fields-window vs e = e ∙ ap (λ (l : List ℕ). fields (body k) l) w

  pub node-window : (f : Form) (m : Node) → m ≡ node f (fields (body k) rs) → m ≡ node f (fields_in k bs)
  node-window f m e = e ∙ ap (λ (l : List ℕ). node f (fields (body k) l)) w
