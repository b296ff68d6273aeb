-- What a step does to a writer. Assumes nothing.
use Rattle.std.specs.Prelude.{◌≡◌, List, ℕ}
use Rattle.constraint.specs.declared.Term.{Term}
use Rattle.pass_trees.specs.Passes.{Cut as Cutting, Cuts}
use Rattle.pass_3ac.specs.declared.Writer.{Writer}
use Rattle.pass_3ac.specs.Cutting.{Cut, Place, Room, put_equalities, cut_from, place_from}

-- where it writes next
abbrev pub place_of : Writer → Place
place_of w = record { next = w.next; at = w.at }

-- room in its body, and ids
abbrev pub RoomIn : ℕ → Writer → Type 0
RoomIn n w = Room n w.at w.next w.body.now

-- the body after the step, the term that the step answers, and where it writes next; the statement's place and all else stay
pub record Placed (body : List ℕ) (cut : Cut) (term : Term) (old new : Writer) : Type 0 where
  pub body_is : new.body.now ≡ body
  pub cut_is : record { term = term; place = place_of new } ≡ cut
  pub same_place : new.place ≡ old.place
  pub lent : new.body ≡ record old.body { now = new.body.now }

-- a tree is cut
abbrev pub TreePut : Cutting → Term → Writer → Writer → Type 0
TreePut c term old new = Placed (put_equalities old.body.now old.at c.equalities) (cut_from old.at c) term old new

-- cuts are written
pub record CutsPut (c : Cuts) (old new : Writer) : Type 0 where
  pub body_is : new.body.now ≡ put_equalities old.body.now old.at c.equalities
  pub place_is : place_of new ≡ place_from old.at c
  pub lent : new.body ≡ record old.body { now = new.body.now }
