-- The numbers of the paper, each named once: limits, record kinds, refusal numbers.
use Rattle.std.specs.Prelude.{ℕ}

-- What a profile of the library allows. Every rule below takes these as a parameter.
pub record Limits : Type 0 where
  -- "at most 512 simplices a list"
  pub simplices : ℕ
  -- "v is 0 to 256"
  pub vertices : ℕ
  -- the longest payloads of a chain and of a walk: "at most 1,024"
  pub chain_bytes : ℕ
  pub walk_bytes : ℕ
  -- "7 edit, 0 to 64 records"
  pub edits : ℕ
  -- "6,690 bytes a job"
  pub job_bytes : ℕ
  -- "fewer than 2,055 output bytes or 65,536 bytes of work memory"
  pub out_bytes : ℕ
  pub work_bytes : ℕ

abbrev pub small : Limits
small =
    record {
      simplices = 512;
      vertices = 256;
      chain_bytes = 1024;
      walk_bytes = 1024;
      edits = 64;
      job_bytes = 6690;
      out_bytes = 2055;
      work_bytes = 65536;
    }

-- A record's header: "a 4-byte length of its payload, a 2-byte kind".
abbrev pub header_bytes : ℕ
header_bytes = 6

-- Record kinds. A list's kind is also the number of vertices of its simplices.
abbrev pub head_kind : ℕ
head_kind = 1

abbrev pub edges_kind : ℕ
edges_kind = 2

abbrev pub triangles_kind : ℕ
triangles_kind = 3

abbrev pub tetrahedra_kind : ℕ
tetrahedra_kind = 4

abbrev pub chain_kind : ℕ
chain_kind = 5

abbrev pub walk_kind : ℕ
walk_kind = 6

abbrev pub edit_kind : ℕ
edit_kind = 7

-- "A chain: kind 16", "A refusal: kind 17".
abbrev pub answer_kind : ℕ
answer_kind = 16

abbrev pub refusal_kind : ℕ
refusal_kind = 17

-- The refusals, in the order of the table.
abbrev pub too_long : ℕ
too_long = 1

abbrev pub cut : ℕ
cut = 2

abbrev pub wrong_kind : ℕ
wrong_kind = 3

abbrev pub shape : ℕ
shape = 4

abbrev pub bad_head : ℕ
bad_head = 5

abbrev pub vertex : ℕ
vertex = 6

abbrev pub twice : ℕ
twice = 7

abbrev pub face : ℕ
face = 8

abbrev pub chain_item : ℕ
chain_item = 9

abbrev pub stale : ℕ
stale = 10

abbrev pub target : ℕ
target = 11

abbrev pub rim_open : ℕ
rim_open = 12

abbrev pub no_filling : ℕ
no_filling = 13

abbrev pub room : ℕ
room = 14
