-- The bench jobs P1 to P12 of document 01 as data: the bytes of each job, one record to a line, and the bytes of the one
-- record that answers it.
use Rattle.std.specs.Prelude.{ℕ, List, [], ◌∷◌, ◌++◌}

pub record Entry : Type 0 where
  pub job : List ℕ
  pub answer : List ℕ

-- P1: Shell, fill d 2, A = 01 02 12: answer 012
abbrev pub p1 : Entry
p1 =
    record {
      job =
          (4 ∷ 0 ∷ 0 ∷ 0 ∷ 1 ∷ 0 ∷ 1 ∷ 2 ∷ 4 ∷ 0 ∷ []) ++
          (12 ∷ 0 ∷ 0 ∷ 0 ∷ 2 ∷ 0 ∷ 0 ∷ 1 ∷ 0 ∷ 2 ∷ 0 ∷ 3 ∷ 1 ∷ 2 ∷ 1 ∷ 3 ∷ 2 ∷ 3 ∷ []) ++
          (12 ∷ 0 ∷ 0 ∷ 0 ∷ 3 ∷ 0 ∷ 0 ∷ 1 ∷ 2 ∷ 0 ∷ 1 ∷ 3 ∷ 0 ∷ 2 ∷ 3 ∷ 1 ∷ 2 ∷ 3 ∷ []) ++
          (0 ∷ 0 ∷ 0 ∷ 0 ∷ 4 ∷ 0 ∷ []) ++
          (6 ∷ 0 ∷ 0 ∷ 0 ∷ 5 ∷ 0 ∷ 0 ∷ 0 ∷ 1 ∷ 0 ∷ 3 ∷ 0 ∷ []);
      answer = 4 ∷ 0 ∷ 0 ∷ 0 ∷ 16 ∷ 0 ∷ 2 ∷ 0 ∷ 1 ∷ 2 ∷ [];
    }

-- P2: the same with triangle 012 moved from 0 to 3: three low faces beat one high one
abbrev pub p2 : Entry
p2 =
    record {
      job =
          (4 ∷ 0 ∷ 0 ∷ 0 ∷ 1 ∷ 0 ∷ 1 ∷ 2 ∷ 4 ∷ 0 ∷ []) ++
          (12 ∷ 0 ∷ 0 ∷ 0 ∷ 2 ∷ 0 ∷ 0 ∷ 1 ∷ 0 ∷ 2 ∷ 0 ∷ 3 ∷ 1 ∷ 2 ∷ 1 ∷ 3 ∷ 2 ∷ 3 ∷ []) ++
          (12 ∷ 0 ∷ 0 ∷ 0 ∷ 3 ∷ 0 ∷ 0 ∷ 1 ∷ 2 ∷ 0 ∷ 1 ∷ 3 ∷ 0 ∷ 2 ∷ 3 ∷ 1 ∷ 2 ∷ 3 ∷ []) ++
          (0 ∷ 0 ∷ 0 ∷ 0 ∷ 4 ∷ 0 ∷ []) ++
          (6 ∷ 0 ∷ 0 ∷ 0 ∷ 5 ∷ 0 ∷ 0 ∷ 0 ∷ 1 ∷ 0 ∷ 3 ∷ 0 ∷ []) ++
          (9 ∷ 0 ∷ 0 ∷ 0 ∷ 7 ∷ 0 ∷ 3 ∷ 0 ∷ 0 ∷ 0 ∷ 3 ∷ 0 ∷ 0 ∷ 1 ∷ 2 ∷ []);
      answer = 10 ∷ 0 ∷ 0 ∷ 0 ∷ 16 ∷ 0 ∷ 2 ∷ 0 ∷ 1 ∷ 3 ∷ 0 ∷ 2 ∷ 3 ∷ 1 ∷ 2 ∷ 3 ∷ [];
    }

-- P3: Shell, fill d 2, empty A: the empty chain
abbrev pub p3 : Entry
p3 =
    record {
      job =
          (4 ∷ 0 ∷ 0 ∷ 0 ∷ 1 ∷ 0 ∷ 1 ∷ 2 ∷ 4 ∷ 0 ∷ []) ++
          (12 ∷ 0 ∷ 0 ∷ 0 ∷ 2 ∷ 0 ∷ 0 ∷ 1 ∷ 0 ∷ 2 ∷ 0 ∷ 3 ∷ 1 ∷ 2 ∷ 1 ∷ 3 ∷ 2 ∷ 3 ∷ []) ++
          (12 ∷ 0 ∷ 0 ∷ 0 ∷ 3 ∷ 0 ∷ 0 ∷ 1 ∷ 2 ∷ 0 ∷ 1 ∷ 3 ∷ 0 ∷ 2 ∷ 3 ∷ 1 ∷ 2 ∷ 3 ∷ []) ++
          (0 ∷ 0 ∷ 0 ∷ 0 ∷ 4 ∷ 0 ∷ []) ++
          (0 ∷ 0 ∷ 0 ∷ 0 ∷ 5 ∷ 0 ∷ []);
      answer = 1 ∷ 0 ∷ 0 ∷ 0 ∷ 16 ∷ 0 ∷ 2 ∷ [];
    }

-- P4: Shell, fill d 2, A = 01: refusal 12
abbrev pub p4 : Entry
p4 =
    record {
      job =
          (4 ∷ 0 ∷ 0 ∷ 0 ∷ 1 ∷ 0 ∷ 1 ∷ 2 ∷ 4 ∷ 0 ∷ []) ++
          (12 ∷ 0 ∷ 0 ∷ 0 ∷ 2 ∷ 0 ∷ 0 ∷ 1 ∷ 0 ∷ 2 ∷ 0 ∷ 3 ∷ 1 ∷ 2 ∷ 1 ∷ 3 ∷ 2 ∷ 3 ∷ []) ++
          (12 ∷ 0 ∷ 0 ∷ 0 ∷ 3 ∷ 0 ∷ 0 ∷ 1 ∷ 2 ∷ 0 ∷ 1 ∷ 3 ∷ 0 ∷ 2 ∷ 3 ∷ 1 ∷ 2 ∷ 3 ∷ []) ++
          (0 ∷ 0 ∷ 0 ∷ 0 ∷ 4 ∷ 0 ∷ []) ++
          (2 ∷ 0 ∷ 0 ∷ 0 ∷ 5 ∷ 0 ∷ 0 ∷ 0 ∷ []);
      answer = 6 ∷ 0 ∷ 0 ∷ 0 ∷ 17 ∷ 0 ∷ 12 ∷ 0 ∷ 0 ∷ 0 ∷ 0 ∷ 0 ∷ [];
    }

-- P5: Plate without its triangle, fill d 2, A = all edges: refusal 13
abbrev pub p5 : Entry
p5 =
    record {
      job =
          (4 ∷ 0 ∷ 0 ∷ 0 ∷ 1 ∷ 0 ∷ 1 ∷ 2 ∷ 3 ∷ 0 ∷ []) ++
          (6 ∷ 0 ∷ 0 ∷ 0 ∷ 2 ∷ 0 ∷ 0 ∷ 1 ∷ 0 ∷ 2 ∷ 1 ∷ 2 ∷ []) ++
          (0 ∷ 0 ∷ 0 ∷ 0 ∷ 3 ∷ 0 ∷ []) ++
          (0 ∷ 0 ∷ 0 ∷ 0 ∷ 4 ∷ 0 ∷ []) ++
          (6 ∷ 0 ∷ 0 ∷ 0 ∷ 5 ∷ 0 ∷ 0 ∷ 0 ∷ 1 ∷ 0 ∷ 2 ∷ 0 ∷ []);
      answer = 6 ∷ 0 ∷ 0 ∷ 0 ∷ 17 ∷ 0 ∷ 13 ∷ 0 ∷ 0 ∷ 0 ∷ 0 ∷ 0 ∷ [];
    }

-- P6: Plate, class d 1, A = 12: answer 01 02
abbrev pub p6 : Entry
p6 =
    record {
      job =
          (4 ∷ 0 ∷ 0 ∷ 0 ∷ 1 ∷ 0 ∷ 2 ∷ 1 ∷ 3 ∷ 0 ∷ []) ++
          (6 ∷ 0 ∷ 0 ∷ 0 ∷ 2 ∷ 0 ∷ 0 ∷ 1 ∷ 0 ∷ 2 ∷ 1 ∷ 2 ∷ []) ++
          (3 ∷ 0 ∷ 0 ∷ 0 ∷ 3 ∷ 0 ∷ 0 ∷ 1 ∷ 2 ∷ []) ++
          (0 ∷ 0 ∷ 0 ∷ 0 ∷ 4 ∷ 0 ∷ []) ++
          (2 ∷ 0 ∷ 0 ∷ 0 ∷ 5 ∷ 0 ∷ 2 ∷ 0 ∷ []);
      answer = 5 ∷ 0 ∷ 0 ∷ 0 ∷ 16 ∷ 0 ∷ 1 ∷ 0 ∷ 1 ∷ 0 ∷ 2 ∷ [];
    }

-- P7: Plate, fill d 1, A = vertices 0, 2: answer 02
abbrev pub p7 : Entry
p7 =
    record {
      job =
          (4 ∷ 0 ∷ 0 ∷ 0 ∷ 1 ∷ 0 ∷ 1 ∷ 1 ∷ 3 ∷ 0 ∷ []) ++
          (6 ∷ 0 ∷ 0 ∷ 0 ∷ 2 ∷ 0 ∷ 0 ∷ 1 ∷ 0 ∷ 2 ∷ 1 ∷ 2 ∷ []) ++
          (3 ∷ 0 ∷ 0 ∷ 0 ∷ 3 ∷ 0 ∷ 0 ∷ 1 ∷ 2 ∷ []) ++
          (0 ∷ 0 ∷ 0 ∷ 0 ∷ 4 ∷ 0 ∷ []) ++
          (4 ∷ 0 ∷ 0 ∷ 0 ∷ 5 ∷ 0 ∷ 0 ∷ 0 ∷ 2 ∷ 0 ∷ []);
      answer = 3 ∷ 0 ∷ 0 ∷ 0 ∷ 16 ∷ 0 ∷ 1 ∷ 0 ∷ 2 ∷ [];
    }

-- P8: Plate with edges in the order 01 12 02, same A: answer 01 12
abbrev pub p8 : Entry
p8 =
    record {
      job =
          (4 ∷ 0 ∷ 0 ∷ 0 ∷ 1 ∷ 0 ∷ 1 ∷ 1 ∷ 3 ∷ 0 ∷ []) ++
          (6 ∷ 0 ∷ 0 ∷ 0 ∷ 2 ∷ 0 ∷ 0 ∷ 1 ∷ 1 ∷ 2 ∷ 0 ∷ 2 ∷ []) ++
          (3 ∷ 0 ∷ 0 ∷ 0 ∷ 3 ∷ 0 ∷ 0 ∷ 1 ∷ 2 ∷ []) ++
          (0 ∷ 0 ∷ 0 ∷ 0 ∷ 4 ∷ 0 ∷ []) ++
          (4 ∷ 0 ∷ 0 ∷ 0 ∷ 5 ∷ 0 ∷ 0 ∷ 0 ∷ 2 ∷ 0 ∷ []);
      answer = 5 ∷ 0 ∷ 0 ∷ 0 ∷ 16 ∷ 0 ∷ 1 ∷ 0 ∷ 1 ∷ 1 ∷ 2 ∷ [];
    }

-- P9: vertices 0 to 2, edges 01 12, class d 0, A = 0, 1, 2: answer vertex 0
abbrev pub p9 : Entry
p9 =
    record {
      job =
          (4 ∷ 0 ∷ 0 ∷ 0 ∷ 1 ∷ 0 ∷ 2 ∷ 0 ∷ 3 ∷ 0 ∷ []) ++
          (4 ∷ 0 ∷ 0 ∷ 0 ∷ 2 ∷ 0 ∷ 0 ∷ 1 ∷ 1 ∷ 2 ∷ []) ++
          (0 ∷ 0 ∷ 0 ∷ 0 ∷ 3 ∷ 0 ∷ []) ++
          (0 ∷ 0 ∷ 0 ∷ 0 ∷ 4 ∷ 0 ∷ []) ++
          (6 ∷ 0 ∷ 0 ∷ 0 ∷ 5 ∷ 0 ∷ 0 ∷ 0 ∷ 1 ∷ 0 ∷ 2 ∷ 0 ∷ []);
      answer = 2 ∷ 0 ∷ 0 ∷ 0 ∷ 16 ∷ 0 ∷ 0 ∷ 0 ∷ [];
    }

-- P10: the same with A = 1, 2: the empty chain
abbrev pub p10 : Entry
p10 =
    record {
      job =
          (4 ∷ 0 ∷ 0 ∷ 0 ∷ 1 ∷ 0 ∷ 2 ∷ 0 ∷ 3 ∷ 0 ∷ []) ++
          (4 ∷ 0 ∷ 0 ∷ 0 ∷ 2 ∷ 0 ∷ 0 ∷ 1 ∷ 1 ∷ 2 ∷ []) ++
          (0 ∷ 0 ∷ 0 ∷ 0 ∷ 3 ∷ 0 ∷ []) ++
          (0 ∷ 0 ∷ 0 ∷ 0 ∷ 4 ∷ 0 ∷ []) ++
          (4 ∷ 0 ∷ 0 ∷ 0 ∷ 5 ∷ 0 ∷ 1 ∷ 0 ∷ 2 ∷ 0 ∷ []);
      answer = 1 ∷ 0 ∷ 0 ∷ 0 ∷ 16 ∷ 0 ∷ 0 ∷ [];
    }

-- P11: two vertices, no edges, fill d 1, A = vertex 0: refusal 13
abbrev pub p11 : Entry
p11 =
    record {
      job =
          (4 ∷ 0 ∷ 0 ∷ 0 ∷ 1 ∷ 0 ∷ 1 ∷ 1 ∷ 2 ∷ 0 ∷ []) ++
          (0 ∷ 0 ∷ 0 ∷ 0 ∷ 2 ∷ 0 ∷ []) ++
          (0 ∷ 0 ∷ 0 ∷ 0 ∷ 3 ∷ 0 ∷ []) ++
          (0 ∷ 0 ∷ 0 ∷ 0 ∷ 4 ∷ 0 ∷ []) ++
          (2 ∷ 0 ∷ 0 ∷ 0 ∷ 5 ∷ 0 ∷ 0 ∷ 0 ∷ []);
      answer = 6 ∷ 0 ∷ 0 ∷ 0 ∷ 17 ∷ 0 ∷ 13 ∷ 0 ∷ 0 ∷ 0 ∷ 0 ∷ 0 ∷ [];
    }

-- P12: Shell with tetrahedron 0123, fill d 3, A = all four triangles: answer 0123
abbrev pub p12 : Entry
p12 =
    record {
      job =
          (4 ∷ 0 ∷ 0 ∷ 0 ∷ 1 ∷ 0 ∷ 1 ∷ 3 ∷ 4 ∷ 0 ∷ []) ++
          (12 ∷ 0 ∷ 0 ∷ 0 ∷ 2 ∷ 0 ∷ 0 ∷ 1 ∷ 0 ∷ 2 ∷ 0 ∷ 3 ∷ 1 ∷ 2 ∷ 1 ∷ 3 ∷ 2 ∷ 3 ∷ []) ++
          (12 ∷ 0 ∷ 0 ∷ 0 ∷ 3 ∷ 0 ∷ 0 ∷ 1 ∷ 2 ∷ 0 ∷ 1 ∷ 3 ∷ 0 ∷ 2 ∷ 3 ∷ 1 ∷ 2 ∷ 3 ∷ []) ++
          (4 ∷ 0 ∷ 0 ∷ 0 ∷ 4 ∷ 0 ∷ 0 ∷ 1 ∷ 2 ∷ 3 ∷ []) ++
          (8 ∷ 0 ∷ 0 ∷ 0 ∷ 5 ∷ 0 ∷ 0 ∷ 0 ∷ 1 ∷ 0 ∷ 2 ∷ 0 ∷ 3 ∷ 0 ∷ []);
      answer = 5 ∷ 0 ∷ 0 ∷ 0 ∷ 16 ∷ 0 ∷ 3 ∷ 0 ∷ 1 ∷ 2 ∷ 3 ∷ [];
    }

abbrev pub bench_jobs : List Entry
bench_jobs = p1 ∷ p2 ∷ p3 ∷ p4 ∷ p5 ∷ p6 ∷ p7 ∷ p8 ∷ p9 ∷ p10 ∷ p11 ∷ p12 ∷ []
