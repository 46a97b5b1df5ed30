-- When a worker of a run carries its request on: there can be as many requests at once as there are workers with jobs left, and
-- slots; three in four of them are outstanding (this model's choice).
use Rattle.std.specs.Prelude.{ℕ, ◌-◌, ◌/◌, Bool, min, nat_le}

abbrev pub most_requests : (working depth : ℕ) → ℕ
most_requests working depth = min working depth

abbrev pub is_enough : (outstanding working depth : ℕ) → Bool
is_enough outstanding working depth = nat_le (most_requests working depth - most_requests working depth / 4) outstanding
