-- Twelve scripts at the corners of the rules of input devices: sliders of few columns, targets that handlers
-- or commands disable, hide and delete, two devices on one group, a push whose group changes, and what is
-- hit.
use Rattle.std.specs.Prelude.{◌++◌, codes}
use Rattle.run_logs.specs.Samples.{Sample}

abbrev pub corner_1 : Sample
corner_1 = record {
  words = codes "60 40 8";
  script = codes "new 10 3 slider\nsize 10 1 5\non 10 pressed say\non 10 pressing say\n"
      ++ codes "on 10 long_pressed say\non 10 long_pressed_repeat say\non 10 released say\n"
      ++ codes "on 10 short_clicked say\non 10 clicked say\non 10 value_changed say\non 10 focused say\n"
      ++ codes "on 10 defocused say\non 10 key say\ntouch 0 0\nrelease\nsize 10 2 5\nrange 10 -7 -2\n"
      ++ codes "touch 0 0\ntouch 1 0\nrelease\nsize 10 4 5\ntouch 1 1\ntouch 2 1\ntouch 3 1\nrelease\n"
      ++ codes "local 10 main pad_left 5\ntouch 1 1\nvalue 10 -2\ntouch 1 1\nrelease\n";
  log = codes "1 ok\n2 ok\n3 ok\n4 ok\n5 ok\n6 ok\n7 ok\n8 ok\n9 ok\n10 ok\n11 ok\n12 ok\n13 ok\n"
      ++ codes "event pressed 10 10\n14 ok\nevent released 10 10\nevent short_clicked 10 10\n"
      ++ codes "event clicked 10 10\n15 ok\n16 ok\n17 ok\nevent pressed 10 10\nevent value_changed 10 10\n"
      ++ codes "18 ok\nevent pressing 10 10\nevent value_changed 10 10\n19 ok\nevent released 10 10\n"
      ++ codes "event short_clicked 10 10\nevent clicked 10 10\n20 ok\n21 ok\nevent pressed 10 10\n"
      ++ codes "event value_changed 10 10\n22 ok\nevent pressing 10 10\nevent value_changed 10 10\n23 ok\n"
      ++ codes "event pressing 10 10\nevent value_changed 10 10\n24 ok\nevent released 10 10\n"
      ++ codes "event short_clicked 10 10\nevent clicked 10 10\n25 ok\n26 ok\nevent pressed 10 10\n"
      ++ codes "event value_changed 10 10\n27 ok\n28 ok\nevent pressing 10 10\nevent value_changed 10 10\n"
      ++ codes "29 ok\nevent released 10 10\nevent short_clicked 10 10\nevent clicked 10 10\n30 ok\n";
}

abbrev pub corner_2 : Sample
corner_2 = record {
  words = codes "60 40 8";
  script = codes "new 10 3 slider\nsize 10 12 5\nlocal 10 main:pressed pad_left 3\non 10 pressed say\n"
      ++ codes "on 10 pressing say\non 10 long_pressed say\non 10 long_pressed_repeat say\n"
      ++ codes "on 10 released say\non 10 short_clicked say\non 10 clicked say\non 10 value_changed say\n"
      ++ codes "on 10 focused say\non 10 defocused say\non 10 key say\ntouch 2 1\ntouch 6 1\n"
      ++ codes "on 10 pressed value 10 3\nrelease\ntouch 6 1\nrelease\nvalue 10 50\n";
  log = codes "1 ok\n2 ok\n3 ok\n4 ok\n5 ok\n6 ok\n7 ok\n8 ok\n9 ok\n10 ok\n11 ok\n12 ok\n13 ok\n14 ok\n"
      ++ codes "event pressed 10 10\n15 ok\nevent pressing 10 10\nevent value_changed 10 10\n16 ok\n17 ok\n"
      ++ codes "event released 10 10\nevent short_clicked 10 10\nevent clicked 10 10\n18 ok\n"
      ++ codes "event pressed 10 10\n19 ok\nevent released 10 10\nevent short_clicked 10 10\n"
      ++ codes "event clicked 10 10\n20 ok\n21 ok\n";
}

abbrev pub corner_3 : Sample
corner_3 = record {
  words = codes "60 40 8";
  script = codes "new 10 3 button\nsize 10 20 20\non 10 pressed say\non 10 pressing say\n"
      ++ codes "on 10 long_pressed say\non 10 long_pressed_repeat say\non 10 released say\n"
      ++ codes "on 10 short_clicked say\non 10 clicked say\non 10 value_changed say\non 10 focused say\n"
      ++ codes "on 10 defocused say\non 10 key say\non 10 released state target disabled on\ntouch 1 1\n"
      ++ codes "release\nstate 10 disabled off\ntouch 1 1\ntick 400\nstate 10 disabled on\ntick 100\n"
      ++ codes "tick 100\nstate 10 disabled off\ntick 100\nrelease\n";
  log = codes "1 ok\n2 ok\n3 ok\n4 ok\n5 ok\n6 ok\n7 ok\n8 ok\n9 ok\n10 ok\n11 ok\n12 ok\n13 ok\n14 ok\n"
      ++ codes "event pressed 10 10\n15 ok\nevent released 10 10\n16 ok\n17 ok\nevent pressed 10 10\n18 ok\n"
      ++ codes "event long_pressed 10 10\n19 ok\n20 ok\n21 ok\n22 ok\n23 ok\n"
      ++ codes "event long_pressed_repeat 10 10\n24 ok\nevent released 10 10\n25 ok\n";
}

abbrev pub corner_4 : Sample
corner_4 = record {
  words = codes "60 40 8";
  script = codes "new 10 3 button\nsize 10 20 20\nflag 10 bubble on\non 3 pressed say\non 3 pressing say\n"
      ++ codes "on 3 long_pressed say\non 3 long_pressed_repeat say\non 3 released say\n"
      ++ codes "on 3 short_clicked say\non 3 clicked say\non 3 value_changed say\non 3 focused say\n"
      ++ codes "on 3 defocused say\non 3 key say\non 10 pressed delete target\non 10 pressed say\n"
      ++ codes "touch 1 1\ntick 400\nnew 10 3 button\nsize 10 20 20\ntouch 1 1\nrelease\ntouch 1 1\n"
      ++ codes "touch 30 1\nrelease\n";
  log = codes "1 ok\n2 ok\n3 ok\n4 ok\n5 ok\n6 ok\n7 ok\n8 ok\n9 ok\n10 ok\n11 ok\n12 ok\n13 ok\n14 ok\n"
      ++ codes "15 ok\n16 ok\nevent pressed 10 3\n17 ok\n18 ok\n19 ok\n20 ok\n21 ok\n22 ok\n23 ok\n24 ok\n"
      ++ codes "25 ok\n";
}

abbrev pub corner_5 : Sample
corner_5 = record {
  words = codes "60 40 8";
  script = codes "screen 20\nnew 10 3 checkbox\non 10 pressed say\non 10 pressing say\n"
      ++ codes "on 10 long_pressed say\non 10 long_pressed_repeat say\non 10 released say\n"
      ++ codes "on 10 short_clicked say\non 10 clicked say\non 10 value_changed say\non 10 focused say\n"
      ++ codes "on 10 defocused say\non 10 key say\ntouch 1 1\nflag 10 hidden on\ntick 400\nrelease\n"
      ++ codes "flag 10 hidden off\nload 20\ntouch 1 1\nrelease\nload 3\ntouch 1 1\nload 20\nrelease\n"
      ++ codes "flag 10 checkable off\nload 3\ntouch 1 1\nrelease\n";
  log = codes "1 ok\n2 ok\n3 ok\n4 ok\n5 ok\n6 ok\n7 ok\n8 ok\n9 ok\n10 ok\n11 ok\n12 ok\n13 ok\n"
      ++ codes "event pressed 10 10\n14 ok\n15 ok\nevent long_pressed 10 10\n16 ok\nevent released 10 10\n"
      ++ codes "event clicked 10 10\nevent value_changed 10 10\n17 ok\n18 ok\n19 ok\n20 ok\n21 ok\n22 ok\n"
      ++ codes "event pressed 10 10\n23 ok\n24 ok\nevent released 10 10\nevent short_clicked 10 10\n"
      ++ codes "event clicked 10 10\nevent value_changed 10 10\n25 ok\n26 ok\n27 ok\nevent pressed 10 10\n"
      ++ codes "28 ok\nevent released 10 10\nevent short_clicked 10 10\nevent clicked 10 10\n29 ok\n";
}

abbrev pub corner_6 : Sample
corner_6 = record {
  words = codes "60 40 8";
  script = codes "new 10 3 slider\nnew 11 3 checkbox\nnew 12 3 button\ngroup 1\njoin 1 10\njoin 1 11\n"
      ++ codes "join 1 12\nkeypad 1\nencoder 1\non 10 pressed say\non 10 pressing say\n"
      ++ codes "on 10 long_pressed say\non 10 long_pressed_repeat say\non 10 released say\n"
      ++ codes "on 10 short_clicked say\non 10 clicked say\non 10 value_changed say\non 10 focused say\n"
      ++ codes "on 10 defocused say\non 10 key say\non 11 focused say\non 11 defocused say\n"
      ++ codes "on 11 clicked say\non 11 value_changed say\non 11 key say\npush down\nkey next down\n"
      ++ codes "tick 400\nkey right down\npush up\nturn 2\nkey left down\nkey left up\nturn -1\n"
      ++ codes "key enter down\nturn 1\nkey enter up\npush down\ntick 1000\npush up\nturn 1\nturn 1\n";
  log = codes "1 ok\n2 ok\n3 ok\n4 ok\n5 ok\n6 ok\n7 ok\n8 ok\n9 ok\n10 ok\n11 ok\n12 ok\n13 ok\n14 ok\n"
      ++ codes "15 ok\n16 ok\n17 ok\n18 ok\n19 ok\n20 ok\n21 ok\n22 ok\n23 ok\n24 ok\n25 ok\n"
      ++ codes "event pressed 10 10\n26 ok\nevent defocused 10 10\nevent focused 11 11\n27 ok\n28 ok\n"
      ++ codes "event key 11 11\nevent value_changed 11 11\n29 ok\nevent released 10 10\n30 ok\n"
      ++ codes "event key 11 11\nevent key 11 11\n31 ok\nevent key 11 11\nevent value_changed 11 11\n32 ok\n"
      ++ codes "33 ok\nevent key 11 11\n34 ok\n35 ok\nevent key 11 11\nevent value_changed 11 11\n36 ok\n"
      ++ codes "event clicked 11 11\nevent value_changed 11 11\n37 ok\n38 ok\n39 ok\n40 ok\n"
      ++ codes "event defocused 11 11\n41 ok\nevent focused 10 10\n42 ok\n";
}

abbrev pub corner_7 : Sample
corner_7 = record {
  words = codes "60 40 8";
  script = codes "new 10 3 slider\nnew 11 3 slider\ngroup 1\ngroup 2\njoin 1 10\njoin 2 11\nkeypad 1\n"
      ++ codes "encoder 1\non 10 pressed say\non 10 pressing say\non 10 long_pressed say\n"
      ++ codes "on 10 long_pressed_repeat say\non 10 released say\non 10 short_clicked say\n"
      ++ codes "on 10 clicked say\non 10 value_changed say\non 10 focused say\non 10 defocused say\n"
      ++ codes "on 10 key say\non 11 pressed say\non 11 pressing say\non 11 long_pressed say\n"
      ++ codes "on 11 long_pressed_repeat say\non 11 released say\non 11 short_clicked say\n"
      ++ codes "on 11 clicked say\non 11 value_changed say\non 11 focused say\non 11 defocused say\n"
      ++ codes "on 11 key say\nkey enter down\nkeypad 2\ntick 400\nkey enter up\npush down\nencoder 2\n"
      ++ codes "tick 400\npush up\nturn 1\nencoder 1\nturn 1\nencoder 0\nturn 5\npush down\ntick 400\n"
      ++ codes "encoder 2\npush up\nkeypad 0\nkey enter down\nkeypad 1\ntick 500\nkey enter up\n"
      ++ codes "key up down\nkey next down\nkey prev down\n";
  log = codes "1 ok\n2 ok\n3 ok\n4 ok\n5 ok\n6 ok\n7 ok\n8 ok\n9 ok\n10 ok\n11 ok\n12 ok\n13 ok\n14 ok\n"
      ++ codes "15 ok\n16 ok\n17 ok\n18 ok\n19 ok\n20 ok\n21 ok\n22 ok\n23 ok\n24 ok\n25 ok\n26 ok\n27 ok\n"
      ++ codes "28 ok\n29 ok\n30 ok\nevent pressed 10 10\n31 ok\n32 ok\nevent long_pressed 10 10\n33 ok\n"
      ++ codes "event released 10 10\nevent clicked 10 10\n34 ok\nevent pressed 10 10\n35 ok\n36 ok\n37 ok\n"
      ++ codes "event released 10 10\n38 ok\nevent key 11 11\nevent value_changed 11 11\n39 ok\n40 ok\n"
      ++ codes "41 ok\n42 ok\n43 ok\n44 ok\n45 ok\n46 ok\n47 ok\n48 ok\n49 ok\n50 ok\n51 ok\n52 ok\n"
      ++ codes "event key 10 10\nevent value_changed 10 10\n53 ok\n54 ok\n55 ok\n";
}

abbrev pub corner_8 : Sample
corner_8 = record {
  words = codes "60 40 8";
  script = codes "new 10 3 slider\nnew 11 3 slider\ngroup 1\njoin 1 10\njoin 1 11\nencoder 1\n"
      ++ codes "on 10 pressed say\non 10 pressing say\non 10 long_pressed say\n"
      ++ codes "on 10 long_pressed_repeat say\non 10 released say\non 10 short_clicked say\n"
      ++ codes "on 10 clicked say\non 10 value_changed say\non 10 focused say\non 10 defocused say\n"
      ++ codes "on 10 key say\non 11 pressed say\non 11 pressing say\non 11 long_pressed say\n"
      ++ codes "on 11 long_pressed_repeat say\non 11 released say\non 11 short_clicked say\n"
      ++ codes "on 11 clicked say\non 11 value_changed say\non 11 focused say\non 11 defocused say\n"
      ++ codes "on 11 key say\npush down\ndelete 10\ntick 400\npush up\nturn 1\npush down\n"
      ++ codes "state 11 disabled on\ntick 400\npush up\nturn 1\nstate 11 disabled off\npush down\n"
      ++ codes "tick 400\nturn 2\npush up\nstate 11 disabled on\nturn 1\npush down\ntick 400\npush up\n"
      ++ codes "state 11 disabled off\nturn 1\n";
  log = codes "1 ok\n2 ok\n3 ok\n4 ok\n5 ok\n6 ok\n7 ok\n8 ok\n9 ok\n10 ok\n11 ok\n12 ok\n13 ok\n14 ok\n"
      ++ codes "15 ok\n16 ok\n17 ok\n18 ok\n19 ok\n20 ok\n21 ok\n22 ok\n23 ok\n24 ok\n25 ok\n26 ok\n27 ok\n"
      ++ codes "28 ok\nevent pressed 10 10\n29 ok\n30 ok\n31 ok\n32 ok\n33 ok\nevent pressed 11 11\n34 ok\n"
      ++ codes "35 ok\n36 ok\n37 ok\n38 ok\n39 ok\nevent pressed 11 11\n40 ok\n41 ok\nevent key 11 11\n"
      ++ codes "event value_changed 11 11\nevent key 11 11\nevent value_changed 11 11\n42 ok\n"
      ++ codes "event released 11 11\n43 ok\n44 ok\n45 ok\n46 ok\n47 ok\n48 ok\n49 ok\n50 ok\n";
}

abbrev pub corner_9 : Sample
corner_9 = record {
  words = codes "60 40 8";
  script = codes "new 10 3 button\nnew 11 3 button\nnew 12 3 button\nnew 13 3 slider\ngroup 1\njoin 1 10\n"
      ++ codes "join 1 11\njoin 1 12\njoin 1 13\nencoder 1\non 10 pressed say\non 10 pressing say\n"
      ++ codes "on 10 long_pressed say\non 10 long_pressed_repeat say\non 10 released say\n"
      ++ codes "on 10 short_clicked say\non 10 clicked say\non 10 value_changed say\non 10 focused say\n"
      ++ codes "on 10 defocused say\non 10 key say\non 11 pressed say\non 11 pressing say\n"
      ++ codes "on 11 long_pressed say\non 11 long_pressed_repeat say\non 11 released say\n"
      ++ codes "on 11 short_clicked say\non 11 clicked say\non 11 value_changed say\non 11 focused say\n"
      ++ codes "on 11 defocused say\non 11 key say\non 12 pressed say\non 12 pressing say\n"
      ++ codes "on 12 long_pressed say\non 12 long_pressed_repeat say\non 12 released say\n"
      ++ codes "on 12 short_clicked say\non 12 clicked say\non 12 value_changed say\non 12 focused say\n"
      ++ codes "on 12 defocused say\non 12 key say\non 11 focused delete 12\n"
      ++ codes "on 10 defocused state 13 disabled on\nturn 3\nturn -2\nnew 12 3 button\njoin 1 12\n"
      ++ codes "on 10 focused delete target\nturn 2\nturn 1\n";
  log = codes "1 ok\n2 ok\n3 ok\n4 ok\n5 ok\n6 ok\n7 ok\n8 ok\n9 ok\n10 ok\n11 ok\n12 ok\n13 ok\n14 ok\n"
      ++ codes "15 ok\n16 ok\n17 ok\n18 ok\n19 ok\n20 ok\n21 ok\n22 ok\n23 ok\n24 ok\n25 ok\n26 ok\n27 ok\n"
      ++ codes "28 ok\n29 ok\n30 ok\n31 ok\n32 ok\n33 ok\n34 ok\n35 ok\n36 ok\n37 ok\n38 ok\n39 ok\n40 ok\n"
      ++ codes "41 ok\n42 ok\n43 ok\n44 ok\n45 ok\nevent defocused 10 10\nevent focused 11 11\n"
      ++ codes "event defocused 11 11\nevent focused 10 10\nevent defocused 10 10\nevent focused 11 11\n"
      ++ codes "action refused unknown\n46 ok\nevent defocused 11 11\nevent focused 10 10\n"
      ++ codes "event defocused 10 10\nevent focused 11 11\naction refused unknown\n47 ok\n48 ok\n49 ok\n"
      ++ codes "50 ok\nevent defocused 11 11\nevent focused 10 10\n51 ok\nevent defocused 11 11\n52 ok\n";
}

abbrev pub corner_10 : Sample
corner_10 = record {
  words = codes "60 40 8";
  script = codes "new 10 3 button\nnew 11 3 button\nnew 12 3 button\ngroup 1\njoin 1 10\njoin 1 11\n"
      ++ codes "join 1 12\nkeypad 1\non 11 pressed say\non 11 pressing say\non 11 long_pressed say\n"
      ++ codes "on 11 long_pressed_repeat say\non 11 released say\non 11 short_clicked say\n"
      ++ codes "on 11 clicked say\non 11 value_changed say\non 11 focused say\non 11 defocused say\n"
      ++ codes "on 11 key say\non 12 pressed say\non 12 pressing say\non 12 long_pressed say\n"
      ++ codes "on 12 long_pressed_repeat say\non 12 released say\non 12 short_clicked say\n"
      ++ codes "on 12 clicked say\non 12 value_changed say\non 12 focused say\non 12 defocused say\n"
      ++ codes "on 12 key say\non 10 defocused delete 11\nkey next down\nkey next up\nkey next down\n"
      ++ codes "key prev down\n";
  log = codes "1 ok\n2 ok\n3 ok\n4 ok\n5 ok\n6 ok\n7 ok\n8 ok\n9 ok\n10 ok\n11 ok\n12 ok\n13 ok\n14 ok\n"
      ++ codes "15 ok\n16 ok\n17 ok\n18 ok\n19 ok\n20 ok\n21 ok\n22 ok\n23 ok\n24 ok\n25 ok\n26 ok\n27 ok\n"
      ++ codes "28 ok\n29 ok\n30 ok\n31 ok\n32 ok\n33 ok\nevent defocused 12 12\n34 ok\n"
      ++ codes "action refused unknown\nevent focused 12 12\n35 ok\n";
}

abbrev pub corner_11 : Sample
corner_11 = record {
  words = codes "60 40 8";
  script = codes "new 10 3 slider\nflag 10 checkable on\ngroup 1\njoin 1 10\nkeypad 1\nrange 10 0 2\n"
      ++ codes "on 10 pressed say\non 10 pressing say\non 10 long_pressed say\n"
      ++ codes "on 10 long_pressed_repeat say\non 10 released say\non 10 short_clicked say\n"
      ++ codes "on 10 clicked say\non 10 value_changed say\non 10 focused say\non 10 defocused say\n"
      ++ codes "on 10 key say\nkey up down\nkey up down\nkey up up\nkey right down\nkey up down\n"
      ++ codes "key down down\nkey left down\nkey left up\nkey left down\nstate 10 disabled on\n"
      ++ codes "key right down\nkey enter down\nstate 10 disabled off\nkey enter up\nkey enter down\n"
      ++ codes "tick 399\ntick 1\ntick 60000\nkey up down\n";
  log = codes "1 ok\n2 ok\n3 ok\n4 ok\n5 ok\n6 ok\n7 ok\n8 ok\n9 ok\n10 ok\n11 ok\n12 ok\n13 ok\n14 ok\n"
      ++ codes "15 ok\n16 ok\n17 ok\nevent key 10 10\nevent value_changed 10 10\n18 ok\n19 ok\n20 ok\n"
      ++ codes "event key 10 10\nevent value_changed 10 10\n21 ok\nevent key 10 10\n22 ok\nevent key 10 10\n"
      ++ codes "event value_changed 10 10\n23 ok\nevent key 10 10\nevent value_changed 10 10\n24 ok\n25 ok\n"
      ++ codes "event key 10 10\n26 ok\n27 ok\n28 ok\n29 ok\n30 ok\nevent released 10 10\n"
      ++ codes "event short_clicked 10 10\nevent clicked 10 10\nevent value_changed 10 10\n31 ok\n"
      ++ codes "event pressed 10 10\n32 ok\n33 ok\nevent long_pressed 10 10\n34 ok\n"
      ++ codes "event long_pressed_repeat 10 10\n35 ok\nevent released 10 10\nevent clicked 10 10\n"
      ++ codes "event value_changed 10 10\nevent key 10 10\nevent value_changed 10 10\n36 ok\n";
}

abbrev pub corner_12 : Sample
corner_12 = record {
  words = codes "60 40 8";
  script = codes "new 10 3 obj\nsize 10 20 20\nnew 11 10 label\nsize 11 6 8\nnew 12 10 button\n"
      ++ codes "size 12 40 40\nnew 13 1 obj\nsize 13 5 5\npos 13 30 30\nflag 13 clickable off\n"
      ++ codes "new 14 13 obj\non 10 pressed say\non 10 pressing say\non 10 long_pressed say\n"
      ++ codes "on 10 long_pressed_repeat say\non 10 released say\non 10 short_clicked say\n"
      ++ codes "on 10 clicked say\non 10 value_changed say\non 10 focused say\non 10 defocused say\n"
      ++ codes "on 10 key say\non 12 pressed say\non 12 pressing say\non 12 long_pressed say\n"
      ++ codes "on 12 long_pressed_repeat say\non 12 released say\non 12 short_clicked say\n"
      ++ codes "on 12 clicked say\non 12 value_changed say\non 12 focused say\non 12 defocused say\n"
      ++ codes "on 12 key say\non 14 pressed say\non 14 pressing say\non 14 long_pressed say\n"
      ++ codes "on 14 long_pressed_repeat say\non 14 released say\non 14 short_clicked say\n"
      ++ codes "on 14 clicked say\non 14 value_changed say\non 14 focused say\non 14 defocused say\n"
      ++ codes "on 14 key say\non 3 pressed say\non 3 pressing say\non 3 long_pressed say\n"
      ++ codes "on 3 long_pressed_repeat say\non 3 released say\non 3 short_clicked say\non 3 clicked say\n"
      ++ codes "on 3 value_changed say\non 3 focused say\non 3 defocused say\non 3 key say\ntouch 1 1\n"
      ++ codes "release\ntouch 25 1\nrelease\ntouch 31 31\nrelease\ntouch 36 31\nrelease\ntouch -1 0\n"
      ++ codes "release\ntouch 59 39\nrelease\ntouch 60 39\nrelease\nflag 10 hidden on\ntouch 1 1\nrelease\n"
      ++ codes "flag 13 hidden on\ntouch 31 31\nrelease\n";
  log = codes "1 ok\n2 ok\n3 ok\n4 ok\n5 ok\n6 ok\n7 ok\n8 ok\n9 ok\n10 ok\n11 ok\n12 ok\n13 ok\n14 ok\n"
      ++ codes "15 ok\n16 ok\n17 ok\n18 ok\n19 ok\n20 ok\n21 ok\n22 ok\n23 ok\n24 ok\n25 ok\n26 ok\n27 ok\n"
      ++ codes "28 ok\n29 ok\n30 ok\n31 ok\n32 ok\n33 ok\n34 ok\n35 ok\n36 ok\n37 ok\n38 ok\n39 ok\n40 ok\n"
      ++ codes "41 ok\n42 ok\n43 ok\n44 ok\n45 ok\n46 ok\n47 ok\n48 ok\n49 ok\n50 ok\n51 ok\n52 ok\n53 ok\n"
      ++ codes "54 ok\n55 ok\nevent pressed 12 12\n56 ok\nevent released 12 12\nevent short_clicked 12 12\n"
      ++ codes "event clicked 12 12\n57 ok\nevent pressed 3 3\n58 ok\nevent released 3 3\n"
      ++ codes "event short_clicked 3 3\nevent clicked 3 3\n59 ok\nevent pressed 14 14\n60 ok\n"
      ++ codes "event released 14 14\nevent short_clicked 14 14\nevent clicked 14 14\n61 ok\n"
      ++ codes "event pressed 3 3\n62 ok\nevent released 3 3\nevent short_clicked 3 3\nevent clicked 3 3\n"
      ++ codes "63 ok\n64 ok\n65 ok\nevent pressed 3 3\n66 ok\nevent released 3 3\nevent short_clicked 3 3\n"
      ++ codes "event clicked 3 3\n67 ok\n68 ok\n69 ok\n70 ok\nevent pressed 3 3\n71 ok\n"
      ++ codes "event released 3 3\nevent short_clicked 3 3\nevent clicked 3 3\n72 ok\n73 ok\n"
      ++ codes "event pressed 3 3\n74 ok\nevent released 3 3\nevent short_clicked 3 3\nevent clicked 3 3\n"
      ++ codes "75 ok\n";
}
