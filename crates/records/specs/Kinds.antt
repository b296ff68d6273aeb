-- The kinds of nodes (docs/RECORDS.md, "Source record"): expressions 0 to 13, links 14, patterns 16 to 22.
-- Kind 10 stands in no record: the evaluator's intrinsics.
use Rattle.std.specs.Prelude.{◌≡◌, ◌<◌, ℕ, Result, MatchResult}
use Rattle.records.specs.declared.kinds.Kind.{Kind}
use Rattle.records.specs.declared.kinds.NoKind.{NoKind}

abbrev pub UNIT : ℕ
UNIT = 0

abbrev pub NIL : ℕ
NIL = 1

abbrev pub PRODUCT : ℕ
PRODUCT = 2

abbrev pub CONS : ℕ
CONS = 3

abbrev pub INFIX : ℕ
INFIX = 4

abbrev pub NEGATE : ℕ
NEGATE = 5

abbrev pub APPLICATION : ℕ
APPLICATION = 6

abbrev pub CONSTANT : ℕ
CONSTANT = 7

abbrev pub VARIABLE : ℕ
VARIABLE = 8

abbrev pub FUNCTION : ℕ
FUNCTION = 9

abbrev pub INTRINSIC : ℕ
INTRINSIC = 10

abbrev pub LET : ℕ
LET = 11

abbrev pub MATCH : ℕ
MATCH = 12

abbrev pub SEQUENCE : ℕ
SEQUENCE = 13

abbrev pub LINK : ℕ
LINK = 14

abbrev pub UNIT-PATTERN : ℕ
UNIT-PATTERN = 16

abbrev pub NIL-PATTERN : ℕ
NIL-PATTERN = 17

abbrev pub AS-PATTERN : ℕ
AS-PATTERN = 18

abbrev pub PRODUCT-PATTERN : ℕ
PRODUCT-PATTERN = 19

abbrev pub CONS-PATTERN : ℕ
CONS-PATTERN = 20

abbrev pub VARIABLE-PATTERN : ℕ
VARIABLE-PATTERN = 21

abbrev pub CONSTANT-PATTERN : ℕ
CONSTANT-PATTERN = 22

-- a node is four words: kind, a, b, c
abbrev pub NODE-WORDS : ℕ
NODE-WORDS = 4

-- the number of a kind
abbrev pub kind_number : Kind → ℕ
kind_number Kind.Unit = 0
kind_number Kind.Nil = 1
kind_number Kind.Product = 2
kind_number Kind.Cons = 3
kind_number Kind.Infix = 4
kind_number Kind.Negate = 5
kind_number Kind.Application = 6
kind_number Kind.Constant = 7
kind_number Kind.Variable = 8
kind_number Kind.Function = 9
kind_number Kind.Intrinsic = 10
kind_number Kind.Let = 11
kind_number Kind.Match = 12
kind_number Kind.Sequence = 13
kind_number Kind.Link = 14
kind_number Kind.Spare15 = 15
kind_number Kind.UnitPattern = 16
kind_number Kind.NilPattern = 17
kind_number Kind.AsPattern = 18
kind_number Kind.ProductPattern = 19
kind_number Kind.ConsPattern = 20
kind_number Kind.VariablePattern = 21
kind_number Kind.ConstantPattern = 22
kind_number Kind.Spare23 = 23
kind_number Kind.ExpandedUnit = 24
kind_number Kind.ExpandedNil = 25
kind_number Kind.Spare26 = 26
kind_number Kind.ExpandedProduct = 27
kind_number Kind.ExpandedCons = 28
kind_number Kind.Spare29 = 29
kind_number Kind.Spare30 = 30
kind_number Kind.Spare31 = 31

-- the result is the kind with this number, or an error with a number that is above them all
abbrev pub Kinds : ℕ → Result Kind NoKind → Type 0
Kinds n r = MatchResult r (λ k. kind_number k ≡ n) (λ e. (e.0 ≡ n) × (31 < n))
