-- The parts of an entry that was read. Assumes nothing.
use mathlib.Core.Path.{◌≡◌, ap}
use Rattle.source.specs.declared.lists.NameEntry.{NameEntry}
use Rattle.source.specs.declared.lists.DefinitionEntry.{DefinitionEntry}

pub offset-is : {n m : NameEntry} → n ≡ m → n.offset ≡ m.offset
offset-is q = ap (λ (n : NameEntry). n.offset) q

pub size_is : {n m : NameEntry} → n ≡ m → n.size ≡ m.size
size_is q = ap (λ (n : NameEntry). n.size) q

pub pattern-is : {d e : DefinitionEntry} → d ≡ e → d.pattern ≡ e.pattern
pattern-is q = ap (λ (d : DefinitionEntry). d.pattern) q

pub value-is : {d e : DefinitionEntry} → d ≡ e → d.value ≡ e.value
value-is q = ap (λ (d : DefinitionEntry). d.value) q
