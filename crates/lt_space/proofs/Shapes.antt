-- Parts of shapes.
use Rattle.std.proofs.Common.{◌≡◌, ℕ, ◌<◌, ◌⊎◌, inl, inr, IsTrue, nat_lt, true, ap}
use Rattle.std.proofs.lemmas.Bool.{ltb-true}
use Rattle.lt_num.specs.declared.kind.Kind.{Kind}
use Rattle.lt_num.specs.declared.value.Value.{Value}
use Rattle.lt_formula.specs.Expression.{Expression}
use Rattle.lt_formula.specs.Kinds.{Kinds}
use Rattle.lt_formula.specs.Shape.{built}
use Rattle.lt_formula.specs.Table.{fits, names_variable}
use Rattle.lt_formula.specs.declared.operator.BinaryOperator.{BinaryOperator}
use Rattle.lt_formula.specs.declared.operator.UnaryOperator.{UnaryOperator}
use Rattle.lt_formula.specs.declared.role.Role.{Role}
use Rattle.lt_formula.specs.declared.shape.Shape.{Shape}
use Rattle.lt_formula.specs.declared.shape.Shape.TheVariants.{Constant, Previous, Unary, Binary, Choice}
use Rattle.lt_space.specs.Meaning.{is_known}
use Rattle.lt_space.proofs.Circuits.{left_of, right_of}

-- a shape without parts that names no variable of the instant is known
pub leaf_known : (kinds : Kinds) (look : ℕ → Expression) (shape : Shape) → ((k : Kind) × (w : Value) × shape ≡ Constant k w) ⊎ ((r : Role) × (i : ℕ) × shape ≡ Previous r i) → is_known kinds (built look shape) ≡ true
leaf_known kinds look shape (inl h) = ap (λ s. is_known kinds (built look s)) h.2
leaf_known kinds look shape (inr h) = ap (λ s. is_known kinds (built look s)) h.2

-- parts have smaller numbers
pub part_below : (kinds : Kinds) (n : ℕ) (op : UnaryOperator) (a : ℕ) → IsTrue (fits kinds n (Unary op a)) → a < n
part_below kinds n op a h = ltb-true a n (left_of (nat_lt a n) _ (left_of _ (names_variable kinds (Unary op a)) h))

pub parts_below : (kinds : Kinds) (n : ℕ) (op : BinaryOperator) (a b : ℕ) → IsTrue (fits kinds n (Binary op a b)) → (a < n) × (b < n)
parts_below kinds n op a b h =
    let parts = left_of _ (names_variable kinds (Binary op a b)) h in
    (ltb-true a n (left_of (nat_lt a n) _ parts), ltb-true b n (left_of (nat_lt b n) _ (right_of (nat_lt a n) _ parts)))

pub chosen_below : (kinds : Kinds) (n a b d : ℕ) → IsTrue (fits kinds n (Choice a b d)) → (a < n) × (b < n) × (d < n)
chosen_below kinds n a b d h =
    let parts = left_of _ (names_variable kinds (Choice a b d)) h in
    let more = right_of (nat_lt a n) _ parts in
    (ltb-true a n (left_of (nat_lt a n) _ parts), ltb-true b n (left_of (nat_lt b n) _ more), ltb-true d n (left_of (nat_lt d n) _ (right_of (nat_lt b n) _ more)))
