-- The parts of an entry that was read. Assumes nothing.
use mathlib.Core.Path.{◌≡◌, ap}
use Rattle.flat.specs.declared.entries.DefinitionEntry.{DefinitionEntry}
use Rattle.flat.specs.declared.entries.EquationEntry.{EquationEntry}

pub id-is : {d e : DefinitionEntry} → d ≡ e → d.id ≡ e.id
id-is q = ap (λ (d : DefinitionEntry). d.id) q

pub node-is : {d e : DefinitionEntry} → d ≡ e → d.node ≡ e.node
node-is q = ap (λ (d : DefinitionEntry). d.node) q

pub left_is : {e f : EquationEntry} → e ≡ f → e.left ≡ f.left
left_is q = ap (λ (e : EquationEntry). e.left) q

pub right_is : {e f : EquationEntry} → e ≡ f → e.right ≡ f.right
right_is q = ap (λ (e : EquationEntry). e.right) q

pub place_is : {d e : DefinitionEntry} → d ≡ e → d.place ≡ e.place
place_is q = ap (λ (d : DefinitionEntry). d.place) q

pub equation_place-is : {d e : EquationEntry} → d ≡ e → d.place ≡ e.place
equation_place-is q = ap (λ (d : EquationEntry). d.place) q
