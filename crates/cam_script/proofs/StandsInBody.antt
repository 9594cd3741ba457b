-- Each line of a body keeps what holds after some lines of a script.
use Rattle.std.proofs.Common.{◌≡◌, ◌≤◌, ℕ, ◌+◌, Bool, true, false, List, [], ◌∷◌, ◌++◌, length, refl, sym, ap, subst, ◌∙◌, arith}
use Rattle.std.specs.Prelude.{◌==◌, nat_le}
use Rattle.cam_script.specs.declared.Statement.{Statement}
use Rattle.cam_script.specs.declared.Form.{Form}
use Rattle.cam_script.specs.SoFar.{SoFar, Writing, cost_of, nesting_of, with_body, with_statement, with_written}
use Rattle.cam_script.specs.Order.{closes, is_closed, nests_too_deep}
use Rattle.cam_script.specs.Law.{asks_rightly, closes_rightly, is_open_body, is_whole_body, is_body, is_shallow, spent_in}
use Rattle.cam_script.proofs.Holds.{both}
use Rattle.cam_script.proofs.StatementLines.{Says}
use Rattle.cam_script.proofs.Appended.{open_more, whole_more, closed_more, bodies_more, sizes_more, one_longer, nesting_more, all_more}
use Rattle.cam_script.proofs.Stands.{Shape, IsWriting, Stands, not_fresh, no_steps}

below_32 : (n : ℕ) → nat_le 32 n ≡ false → n ≤ 31
below_32 n h = grind (arith, h)

pub after_body : (d : SoFar) (name : List ℕ) → Stands d → d.script.steps ≡ [] → (d.script.nodes == 0) ≡ false → nat_le 32 (length d.script.bodies) ≡ false → Stands (with_body d name)
after_body d name s first some room =
    record {
      fresh = λ e. not_fresh (d.script.nodes == 0) some e;
      eight = s.eight;
      object_limit = s.object_limit;
      labels = s.labels;
      placed = s.placed;
      body_limit = s.body_limit;
      names = s.names;
      sizes = s.sizes;
      hold = s.hold;
      shallow = s.shallow;
      bound = s.bound;
      steps = s.steps;
      spent = s.spent;
      room = s.room;
      written = record { no_step = first; some_nodes = some; one_more = below_32 (length d.script.bodies) room; shape = refl; short = omega arith; shallow = omega arith };
    }

shape_more : (d : SoFar) (ss : List Statement) (s : Statement) (form : Form) (at : ℕ) (line : List ℕ) → is_open_body d.script.nodes d.script.objects (length d.script.bodies) 0 ss ≡ true → Says d (length ss) form at line s → (b : Bool) → closes s ≡ b → Shape d (ss ++ s ∷ []) b
shape_more d ss s form at line h says true e = whole_more d.script.nodes d.script.objects (length d.script.bodies) 0 ss s h (subst (λ k. closes_rightly k s ≡ true) (omega arith) (says.ends e))
shape_more d ss s form at line h says false e = open_more d.script.nodes d.script.objects (length d.script.bodies) 0 ss s h (subst (λ k. asks_rightly d.script.nodes d.script.objects (length d.script.bodies) k s ≡ true) (omega arith) (says.asks e))

pub after_statement : (d : SoFar) (w : Writing) (s : Statement) (form : Form) (at : ℕ) (line : List ℕ) → Stands d → IsWriting d w → is_closed w.statements ≡ false → nat_le 32 (length w.statements) ≡ false → nests_too_deep d form at line ≡ false → Says d (length w.statements) form at line s → Stands (with_statement d w s)
after_statement d w s form at line st writing unclosed room deep says =
    let opened : is_open_body d.script.nodes d.script.objects (length d.script.bodies) 0 w.statements ≡ true = subst (Shape d w.statements) unclosed writing.shape in
    let longer = one_longer w.statements s in
    let below = below_32 (length w.statements) room in
    record {
      fresh = λ e. not_fresh (d.script.nodes == 0) writing.some_nodes e;
      eight = st.eight;
      object_limit = st.object_limit;
      labels = st.labels;
      placed = st.placed;
      body_limit = st.body_limit;
      names = st.names;
      sizes = st.sizes;
      hold = st.hold;
      shallow = st.shallow;
      bound = st.bound;
      steps = st.steps;
      spent = st.spent;
      room = st.room;
      written =
          record {
            no_step = writing.no_step;
            some_nodes = writing.some_nodes;
            one_more = writing.one_more;
            shape = subst (Shape d (w.statements ++ s ∷ [])) (sym (closed_more w.statements s)) (shape_more d w.statements s form at line opened says (closes s) refl);
            short = omega (arith, longer, below);
            shallow = nesting_more d.sizes w.statements s writing.shallow (says.nests deep);
          };
    }

shallow_from : (n : ℕ) → n ≤ 8 → nat_le n 8 ≡ true
shallow_from n h = grind (arith, h)

short_from : (n : ℕ) → n ≤ 32 → nat_le n 32 ≡ true
short_from n h = grind (arith, h)

pub after_end : (d : SoFar) (w : Writing) → Stands d → IsWriting d w → is_closed w.statements ≡ true → Stands (with_written d w)
after_end d w s writing closed =
    let whole : is_whole_body d.script.nodes d.script.objects (length d.script.bodies) 0 w.statements ≡ true = subst (Shape d w.statements) closed writing.shape in
    let longer = one_longer d.script.bodies w.statements in
    let longer_names = one_longer d.body_names w.name in
    let one_more = writing.one_more in
    let names = s.names in
    let body : is_body d.script.nodes d.script.objects (length d.script.bodies) w.statements ≡ true = both whole (short_from (length w.statements) writing.short) in
    record {
      fresh = λ e. not_fresh (d.script.nodes == 0) writing.some_nodes e;
      eight = s.eight;
      object_limit = s.object_limit;
      labels = s.labels;
      placed = s.placed;
      body_limit = omega (arith, longer, one_more);
      names = omega (arith, longer, longer_names, names);
      sizes =
          ap (λ zs. zs ++ record { cost = cost_of zs w.statements; nesting = nesting_of zs w.statements } ∷ []) s.sizes
          ∙ sym (sizes_more [] d.script.bodies w.statements);
      hold = bodies_more d.script.nodes d.script.objects 0 d.script.bodies w.statements s.hold (subst (λ j. is_body d.script.nodes d.script.objects j w.statements ≡ true) (omega arith) body);
      shallow = all_more is_shallow d.sizes (record { cost = cost_of d.sizes w.statements; nesting = nesting_of d.sizes w.statements }) s.shallow (shallow_from (nesting_of d.sizes w.statements) writing.shallow);
      bound = s.bound;
      steps = no_steps d.script.nodes d.script.objects (length (d.script.bodies ++ w.statements ∷ [])) d.script.steps writing.no_step;
      spent =
          s.spent ∙ ap (spent_in d.sizes) writing.no_step
          ∙ sym (ap (spent_in (d.sizes ++ record { cost = cost_of d.sizes w.statements; nesting = nesting_of d.sizes w.statements } ∷ [])) writing.no_step);
      room = s.room;
      written = tt;
    }
