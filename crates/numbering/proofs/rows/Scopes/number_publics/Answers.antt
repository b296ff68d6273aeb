use Rattle.std.proofs.Common.{◌<◌, length, arith, length-set, refl}
use Rattle.numbering.specs.Walks.{no_publics}
use Rattle.numbering.proofs.First.{public-name, publics-start, publics-step, publics-end}
use Rattle.numbering.proofs.rows.Scopes.number_publics.Goals as goal

pub loop-i-init : goal.loop-i-init
unfolding no_publics
loop-i-init c = record { few = omega arith; long = refl; left = λ s p w. publics-start _ _ _ w }

pub number_variable-requires : goal.number_variable-requires
number_variable-requires c =
    let few = c.requires.few in (
      public-name _ _ _ _ _ c.requires.fit c.args.names.now.few c.loop-i-test.true c.public_at-x.ensures.value,
      omega (arith, c.loop-i.invariant.few, few.0, few.1),
    )

pub loop-i-preserved : goal.loop-i-preserved
loop-i-preserved c =
    let v = c.number_variable.ensures in
    let turn = c.loop-i in
    let inv = turn.invariant in
    let less = c.loop-i-test.true in
    let room : turn.i < length turn.publics = omega (arith, inv.long, less, c.requires.few.0) in record {
      few = omega (arith, v.few, inv.few);
      long = simp length-set inv.long;
      left = λ s p w. inv.left s p (publics-step _ _ _ _ c.public_at-x.ensures.value less room v w);
    }

pub returns : goal.returns
returns c = c.loop-i.invariant.left _ _ (publics-end _ _ _ _ c.loop-i-test.false)
